use Rattle.task_cell.proofs.Vocabulary.{◌≡◌, false, List, Deed, Stands, subst, IfOk, IfErr, limit_of}
use Rattle.task_cell.specs.Belongs.{HasMade, IsOf, cell_of, limit_in}
use Rattle.task_cell.specs.WakerPaths.{TaskWakePath}
use Rattle.task_steps.specs.Standing.{as_runnable}
use Rattle.task_exports.specs.Answers.{delivers, nothing, wake_missed}
use Rattle.task_exports.proofs.Live.{brings, misses, records}
use Rattle.task_exports.proofs.lent.wake_by.Goals as goal

pub returns-in-Ok-Ok : goal.returns-in-Ok-Ok
returns-in-Ok-Ok c x of = let same = subst (λ o. IfOk o (λ n. cell_of n.0 ≡ cell_of c.args.share.now)) c.in-Ok-Ok.field-0-is c.in-Ok-Ok.ensures.share in
    let n = subst (λ o. IfOk o (λ n. IsOf c.args.share.now n.1 × (limit_of n.1 ≡ limit_in c.args.share.now) × Stands as_runnable n.1)) c.in-Ok-Ok.field-0-is c.in-Ok-Ok.ensures.delivers in
    let y = brings x.share c.into_maybe.result c.args.share.now c.in-Ok-Ok.brought c.in-Ok-Ok.runnable of same c.into_maybe.ensures n.0 n.1 in delivers y.0 (y.1, y.2) n.2

pub returns-in-Ok-Err : goal.returns-in-Ok-Err
returns-in-Ok-Err c x of = let r = subst (λ o. IfErr o (λ p. (path : List Deed) × TaskWakePath false path × HasMade c.args.share.now path p)) c.in-Ok-Err.field-0-is c.in-Ok-Err.ensures.nothing in
    nothing r.0 r.1 (records x.share c.gone.result c.args.share.now r.0 c.in-Ok-Err.record of c.gone.ensures r.2)

pub returns-in-Err : goal.returns-in-Err
returns-in-Err c x of = wake_missed (misses x.share c.gone-in-Err.result c.args.share.now _ c.in-Err.record of c.gone-in-Err.ensures c.in-Err.ensures.missed)

use Rattle.task_cell.proofs.Vocabulary.{◌≡◌, ap, false, List, [], ◌∷◌, Deed, subst, IfOk, IfErr, view, fresh, as_waker}
use Rattle.task_cell.specs.Belongs.{HasMade, IsOf, cell_of, limit_in}
use Rattle.task_cell.specs.WakerPaths.{GainPath}
use Rattle.task_cell.proofs.WakerMoves.{fresh_stands}
use Rattle.task_exports.specs.Answers.{at_limit, gain_missed, gains}
use Rattle.task_exports.proofs.Live.{brings, misses, records}
use Rattle.task_exports.proofs.lent.gain_by.Goals as goal

pub returns-in-Ok-Ok : goal.returns-in-Ok-Ok
returns-in-Ok-Ok c x of = let same = subst (λ o. IfOk o (λ n. cell_of n.0 ≡ cell_of c.args.share.now)) c.in-Ok-Ok.field-0-is c.in-Ok-Ok.ensures.share in
    let n = subst (λ o. IfOk o (λ n. IsOf c.args.share.now n.1 × (n.1.seat.me ≡ (view (limit_in c.args.share.now) (fresh as_waker ∷ []), [])))) c.in-Ok-Ok.field-0-is c.in-Ok-Ok.ensures.gains in
    let y = brings x.share c.into_maybe.result c.args.share.now c.in-Ok-Ok.brought c.in-Ok-Ok.waker of same c.into_maybe.ensures n.0 (ap (λ m. m.0.limit) n.1) in gains y.0 (y.1, y.2) (fresh_stands as_waker _ c.in-Ok-Ok.waker n.1)

pub returns-in-Ok-Err : goal.returns-in-Ok-Err
returns-in-Ok-Err c x of = let r = subst (λ o. IfErr o (λ p. (path : List Deed) × GainPath (limit_in c.args.share.now) false path × HasMade c.args.share.now path p)) c.in-Ok-Err.field-0-is c.in-Ok-Err.ensures.at_limit in
    at_limit r.0 (subst (λ l. GainPath l false r.0) (ap (λ k. k.limit) of.1) r.1) (records x.share c.gone.result c.args.share.now r.0 c.in-Ok-Err.record of c.gone.ensures r.2)

pub returns-in-Err : goal.returns-in-Err
returns-in-Err c x of = gain_missed (misses x.share c.gone-in-Err.result c.args.share.now _ c.in-Err.record of c.gone-in-Err.ensures c.in-Err.ensures.missed)

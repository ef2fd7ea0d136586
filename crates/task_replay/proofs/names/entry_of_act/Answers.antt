use Rattle.std.proofs.Common.{rules, tests, map, ap, refl}
use Rattle.std.proofs.lemmas.Iterator.{YieldsList-from_slice}
use Rattle.std.proofs.lemmas.Iterator.Search.{find_from_yields_List}
use Rattle.task_core.specs.contracts.acts.ActPartialEq.TheImpl as act
use Rattle.std.specs.Slice.Iter.{iter_rest}
use Rattle.task_replay.proofs.Named.{seen, found_seen}
use Rattle.task_replay.proofs.names.entry_of_act.Goals as goal

pub returns : goal.returns
returns c = found_seen (λ e. act.ghosts.eq e.0 c.args.act) (iter_rest c.iter.result) c.find.result (ap (map seen) c.iter.ensures.rest)
    (find_from_yields_List (λ e. act.ghosts.eq e.0 c.args.act) _ _ _ c.find.ensures.ran (YieldsList-from_slice (iter_rest c.iter.result) refl) (λ x b q k. search (rules, tests)))

use Rattle.std.proofs.Common.{◌≡◌, ◌∙◌, ap, subst, sym}
use Rattle.std.specs.Option.{option_map}
use Rattle.std.specs.Prelude.{IfSome}
use Rattle.task_replay.specs.Names.{name_of}
use Rattle.task_replay.proofs.Named.{seen, named_so}
use Rattle.task_replay.proofs.names.named.Goals as goal

pub returns-in-Some-clause-named : goal.returns-in-Some-clause-named
returns-in-Some-clause-named c = subst (λ o. IfSome o (λ entry. name_of entry.0 ≡ c.args.text.now)) (sym c.entry_of_text.ensures ∙ ap (option_map (λ y. seen y.now)) c.in-Some.is) (named_so c.args.text.now)

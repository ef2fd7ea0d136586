-- An act that changes a slot is made by the slot's owner.
use Rattle.std.proofs.Common.{Option, Some, None, subst}
use Rattle.task_laws.proofs.Vocabulary.{Position, Act, Scene, Outcome, ChangesItsOwn, OwnersAct}
use Rattle.task_laws.proofs.Scenes.{rules, InEach}
use Rattle.task_laws.proofs.Rows.{Row, starts_run, Shows, by_rows}

abbrev Owned : Act → Position → Scene → Option Outcome → Type 0
Owned act p s None = Unit {0}
Owned act p s (Some o) = ChangesItsOwn s p o

owned : (act : Act) (p : Position) (put : Scene → Scene) → Row act p put → InEach (λ scene. Shows Owned act p (put scene))
owned _ _ _ starts_run = grind rules
owned act p put row = grind rules

pub owners_act : OwnersAct
owners_act s act p o is_left = subst (Owned act p s) is_left (by_rows Owned (λ act p s. tt) owned act p s)

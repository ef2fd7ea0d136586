use Rattle.task_cell.proofs.Vocabulary.{refl, ap, not, ◌∷◌, ◌||◌, [], Notifier, MissNotify, BeginNotify, TakeAwaiter, takes}
use Rattle.task_steps.proofs.Shares.{keeps_either}
use Rattle.task_cell.proofs.Steps.{may_make}
use Rattle.task_cell.proofs.Notified.{begun}
use Rattle.task_cell.proofs.cell.Share.begin_notify.Goals as goal

pub fetch_or-found-requires-clause-allowed : goal.fetch_or-found-requires-clause-allowed
fetch_or-found-requires-clause-allowed g c = let s = c.requires.party in may_make _ c.args.party.now (Notifier s.0) s.1 _ _ s.2 (takes _ _ _ _ _ s.0 _ _ _) (λ m f. keeps_either (m.word.notifying || m.word.registering) (MissNotify ∷ []) (BeginNotify ∷ TakeAwaiter ∷ []) m.word refl refl)

pub returns : goal.returns
returns g c = let s = c.requires.party in let w = c.fetch_or-found.result in begun s.0 s.1 _ _ w _ (not (w.notifying || w.registering)) s.2 c.fetch_or-found.ensures.cell c.fetch_or-found.ensures.made refl (ap not c.is_taken.ensures)

use Rattle.std.specs.Prelude.{◌≡◌, Option}
use Rattle.std.specs.Arc.{arc_value}
use Rattle.executor_parts.specs.declared.mailbox.Awaiter.{Awaiter}
use Rattle.executor.specs.declared.shared_waker.desk.Desk.{Desk}
use Rattle.executor.specs.declared.shared_waker.seat.SharedWaker.{SharedWaker}
use Rattle.executor_parts.specs.declared.mailbox.contents.Posted.{Posted}

module _ {R H : Type 0} where
  -- the shared waker posts the number of its own key to the mailbox of the desk
  pub record IsOfDesk (desk : Desk R H) (shared : SharedWaker R (Awaiter R) (Option Posted)) : Type 0 where
    pub mailbox : arc_value (arc_value shared.seat).awaiter.mailbox ≡ arc_value desk.mailbox
    pub number : (arc_value shared.seat).awaiter.number ≡ (arc_value shared.seat).key.number

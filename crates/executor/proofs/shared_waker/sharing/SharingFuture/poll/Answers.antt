use Rattle.executor.specs.Polled.{PolledBy, polls, refused}
use Rattle.executor.proofs.shared_waker.sharing.SharingFuture.poll.Goals as goal

-- The shared waker is that which the call of `share` left.
pub returns-then-not-share-clause-fact : goal.returns-then-not-share-clause-fact
returns-then-not-share-clause-fact g c = refused (record { fresh = c.share.ensures.made; stays = c.share.ensures.stays }) (c.wake_by_ref.result, assumption c)

pub returns-clause-fact : goal.returns-clause-fact
returns-clause-fact g c = polls c.in-Some.shared c.poll.result c.poll.new.self (record { fresh = c.share.ensures.made; stays = c.share.ensures.stays }) c.in-Some.is (assumption c)

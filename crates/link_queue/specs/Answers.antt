-- What is said of a frame that is offered.
use Rattle.std.specs.Prelude.{ℕ, ◌+◌, Bool, nat_le, nat_lt, ◌||◌, ◌&&◌, if◌then◌else◌, List, length, Option, Some, None}
use Rattle.link_queue.specs.Line.{Frame, Line, bytes_of}
use Rattle.link_queue.specs.declared.waiting.Cause.{Cause}
use Rattle.link_queue.specs.declared.waiting.Cause.TheVariants.{Full, Closed}
use Rattle.link_queue.specs.declared.waiting.Dropped.{Dropped}
use Rattle.link_queue.specs.declared.waiting.Queued.{Queued}
use Rattle.link_queue.specs.declared.waiting.Untaken.{Untaken}

-- Where these wait there is no room for a frame: they are 1,024, or with it they would have more than 16 MiB. One that is alone has room.
abbrev pub is_full : List Frame → Frame → Bool
is_full queued f = nat_le 1024 (length queued) || (nat_lt 0 (length queued) && nat_lt 16777216 (bytes_of queued + length f))

-- why a frame is not taken in now
abbrev pub refusal : Line → Frame → Option Cause
refusal l f = if l.closed then Some Closed else if is_full l.queued f then Some Full else None

abbrev pub given_back : Dropped → Frame
given_back d = d.frame

abbrev pub cause_of : Dropped → Cause
cause_of d = d.cause

-- how many frames then waited
abbrev pub count_of : Queued → ℕ
count_of q = q.waiting

-- whether none was handed out since the queue had ended
abbrev pub is_end : Untaken → Bool
is_end u = u.has_ended

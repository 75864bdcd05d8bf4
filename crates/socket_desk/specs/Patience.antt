-- How long the desk waits for a client, in nanoseconds.
use Rattle.std.specs.Prelude.{ℕ, ◌+◌, ◌*◌, ◌||◌, Bool, true, false, min, nat_lt}
use Rattle.std.specs.Duration.{as_nanos, max_nanos}
use Rattle.socket_desk.specs.declared.patience.Patience.{Patience}
use Rattle.socket_desk.specs.declared.patience.Stage.{Stage}
use Rattle.socket_desk.specs.declared.patience.Stage.TheVariants.{Idle, Head, Body, Reply, Closing}
use Rattle.socket_desk.specs.declared.side.Listed.{Listed}
use Rattle.socket_desk.specs.declared.side.Listed.TheVariants.{Nowhere, Ready, Short, Turn}

abbrev pub seconds : ℕ → ℕ
seconds n = n * 1000000000

-- A connection that has been quiet for so long is late at a stage, if its request, or its end, has taken so long in all.
abbrev pub is_late : Patience → Stage → ℕ → ℕ → Bool
is_late patience Idle quiet taken = nat_lt (as_nanos patience.idle) quiet
is_late patience Head quiet taken = nat_lt (as_nanos patience.head) taken
is_late patience Body quiet taken = nat_lt (as_nanos patience.pause) quiet || nat_lt (as_nanos patience.whole) taken
is_late patience Reply quiet taken = nat_lt (as_nanos patience.pause) quiet || nat_lt (as_nanos patience.whole) taken
is_late patience Closing quiet taken = nat_lt (as_nanos patience.closing) taken

-- The desk's own time after so long by the clock: it goes on by one step at most. So time in which the desk could not hear its clients
-- counts for none of them.
abbrev pub own_after : ℕ → ℕ → ℕ → ℕ
own_after own gap step = min (own + min gap step) max_nanos

-- The moment at which a connection is judged. While it waits for its turn, what it sent may lie unread: so this is the last moment at
-- which the desk was told of it. Once the desk has ended its side, nothing that the client sends counts.
abbrev pub judged_at : Listed → Bool → ℕ → ℕ → ℕ
judged_at Ready false told now = told
judged_at Ready true told now = now
judged_at Nowhere closing told now = now
judged_at Short closing told now = now
judged_at Turn closing told now = now

-- One that waits for its turn waits for the desk, and is not late.
abbrev pub unless_turn : Listed → Bool → Bool
unless_turn Nowhere late = late
unless_turn Ready late = late
unless_turn Short late = late
unless_turn Turn late = false

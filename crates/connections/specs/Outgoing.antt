-- No part of what is promised: the type's Model and private contracts cite it. The bytes that have still
-- to go out.
use Rattle.std.specs.Prelude.{ℕ, ◌≤◌, List, length, drop}
use Rattle.connections.specs.declared.outgoing.Outgoing.TheInside.{Inside}

-- the bytes that were not yet written
abbrev pub bytes_out : Inside → List ℕ
bytes_out outgoing = drop outgoing.written outgoing.text.items

-- no more was written than there was
abbrev pub LiesInText : Inside → Type 0
LiesInText outgoing = outgoing.written ≤ length outgoing.text.items

-- Why a call is refused.
use Rattle.std.specs.Prelude.{◌≡◌, ◌⊎◌}

-- Memory ran out, or this is true of the fault. A call may answer want of memory in place of any
-- other answer.
abbrev pub IsRefusal : {Fault : Type 0} → Fault → (Fault → Type 0) → Fault → Type 0
IsRefusal memory IsFault fault = (fault ≡ memory) ⊎ IsFault fault

-- Facts that a test decides.
use Rattle.std.proofs.Common.{◌≡◌, Bool, true, false, Option, Some, None}
use Rattle.std.specs.Prelude.{IfNone}
use Rattle.std.specs.Bool.{OnFalse, OnTrue}

pub from_true : {P : Type 0} (b : Bool) → OnTrue b P → b ≡ true → P
from_true true holds e = holds
from_true false holds e = absurd (cc)

pub from_false : {P : Type 0} (b : Bool) → OnFalse b P → b ≡ false → P
from_false false holds e = holds
from_false true holds e = absurd (cc)

pub from_none : {X : Type 0} {P : Type 0} (o : Option X) → o ≡ None → IfNone o P → P
from_none None e holds = holds
from_none (Some x) e holds = absurd (cc)

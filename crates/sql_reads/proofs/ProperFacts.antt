-- A client has another name than the publisher's.
use Rattle.std.proofs.Common.{◌≡◌, ℕ, List, false, subst}
use Rattle.bureau_store.specs.Caller.{IsProper, is_publisher}
use Rattle.bureau_store.specs.declared.caller.Caller.TheVariants.{Client}

pub other_name : (name : List ℕ) → is_publisher name ≡ false → IsProper (Client name)
other_name name other same = absurd (let it = subst (λ name. is_publisher name ≡ false) same other in cc)

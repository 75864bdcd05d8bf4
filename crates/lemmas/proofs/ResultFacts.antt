-- What follows from facts of results and options.
use Rattle.std.proofs.Common.{◌≡◌, Option, Some, None, Result, Ok, Err, IfOk, IfSome, refl, subst}

-- what follows from a fact of an answer
pub ok_so : {X E : Type 0} {P Q : X → Type 0} (r : Result X E) → IfOk r P → ((x : X) → P x → Q x) → IfOk r Q
ok_so (Ok x) p so = so x p
ok_so (Err e) p so = tt

-- a result with two facts
pub ok_both : {X E : Type 0} (P Q : X → Type 0) (r : Result X E) → IfOk r P → IfOk r Q → IfOk r (λ x. P x × Q x)
ok_both P Q (Ok x) first second = (first, second)
ok_both P Q (Err e) first second = tt

-- what is found has what is known of it
pub some_is : {X : Type 0} (P : X → Type 0) (found : Option X) (x : X) → found ≡ Some x → IfSome found P → P x
some_is P found x is so = subst (λ o. IfSome o P) is so

-- what each that may be found has
pub if_some : {X : Type 0} (P : X → Type 0) (o : Option X) → ((x : X) → o ≡ Some x → P x) → IfSome o P
if_some P None holds = tt
if_some P (Some x) holds = holds x refl

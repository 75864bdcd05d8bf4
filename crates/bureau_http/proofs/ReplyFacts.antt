-- The bytes of replies.
use Rattle.std.proofs.Common.{◌≡◌, ℕ, Bool, List, [], ◌++◌, Result, Ok, Err, IfErr, sym, ap, ◌∙◌, subst, if◌then◌else◌}
use Rattle.requests.specs.Reply.{head_text}
use Rattle.bureau_http.specs.Exchange.{body_told}
use Rattle.bureau_http.specs.Told.{answer_told, head_told, told_text}
use Rattle.bureau_http.specs.declared.reply.Told.{Told}

-- the bytes of a reply
pub whole_reply : (told : Told) (is_bare closes : Bool) (head written : List ℕ) → head ≡ head_text (head_told told closes)
    → written ≡ (if is_bare then [] else body_told (answer_told told)) → head ++ written ≡ told_text told is_bare closes
unfolding told_text
whole_reply told is_bare closes head written is_head is_body =
    ap (λ l. l ++ written) is_head ∙ ap (λ l. head_text (head_told told closes) ++ l) is_body

-- what is told of a fault, told further
pub map_err : {A E : Type 0} {P Q : E → Type 0} (r : Result A E) → IfErr r P → ((e : E) → P e → Q e) → IfErr r Q
map_err (Ok a) p h = p
map_err (Err e) p h = h e p

-- what is told of the fault with which a call ends is told of the answer
pub exits : {A E : Type 0} (P : E → Type 0) (r : Result A E) (e : E) → ((y : E) × (r ≡ Err y) × (y ≡ e)) → P e → IfErr r P
exits P r e exit p = rw exit.1 (subst P (sym exit.2) p)

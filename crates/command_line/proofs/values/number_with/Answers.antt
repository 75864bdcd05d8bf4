use Rattle.std.proofs.Common.{rules, ◌≡◌, ◌≤◌, ◌∙◌, sym, subst, ℕ, Option, Some, None, Result, Ok, Err, refl}
use Rattle.std.specs.Str.Parse.{ExplainsUnsignedError, HasUnsignedDigitsIfOk, ParsesUnsigned}
use Rattle.clap.specs.Words.{ReadsOne, Text, found_of, one_of, rows_of}
use Rattle.clap.proofs.WalkLemmas.{one_text-rows}
use Rattle.command_line.specs.Line.{IsNumberIn}
use Rattle.command_line.proofs.values.number_with.Goals as goal

in_range : (least most : ℕ) (text : Option Text) (number : ℕ) → IsNumberIn least most text number → (least ≤ number) × (number ≤ most)
in_range least most None number is = absurd is
in_range least most (Some t) number is = (is.1, is.2)

module _ (least most : ℕ) (E : Type 0) (G : Text → Result ℕ E → Type 0) (only : (t : Text) (r : Result ℕ E) → G t r → ParsesUnsigned 32 10 t r) where
  -- a text that isn't read as a number is none
  unread : (text : Option Text) (got : Option ℕ) (number : ℕ) → ((t : Text) → text ≡ Some t → ReadsOne G t got) → got ≡ None → IsNumberIn least most text number → ⊥
  unread None got number reads none is = is
  unread (Some t) got number reads none is = let err = subst (ReadsOne G t) none (reads t refl) in only t (Err err.0) err.1 is.0.0

  -- a text that is read as a number is that one
  same : (text : Option Text) (got : Option ℕ) (read number : ℕ) → ((t : Text) → text ≡ Some t → ReadsOne G t got) → got ≡ Some read
      → IsNumberIn least most text number → number ≡ read
  same None got read number reads some is = absurd is
  same (Some t) got read number reads some is = is.0.1 ∙ sym (only t (Ok read) (subst (ReadsOne G t) some (reads t refl))).1

  -- and is the number where it is in the range
  number_of : (text : Option Text) (got : Option ℕ) (read : ℕ) → (text ≡ None → got ≡ None) → ((t : Text) → text ≡ Some t → ReadsOne G t got) → got ≡ Some read
      → least ≤ read → read ≤ most → IsNumberIn least most text read
  number_of None got read none reads some least most = let no : Some read ≡ None = sym some ∙ none refl in cc
  number_of (Some t) got read none reads some least most = (only t (Ok read) (subst (ReadsOne G t) some (reads t refl)), least, most)

pub returns-in_err-number-clause-none : goal.returns-in_err-number-clause-none
returns-in_err-number-clause-none c none number is =
    let found = found_of c.args.matches.now in
    let missing : c.get_one.result ≡ None = search rules in
    unread c.args.least c.args.most _ (λ text r. ParsesUnsigned 32 10 text r × ExplainsUnsignedError 10 text r × HasUnsignedDigitsIfOk text r) (λ t r gives. gives.0)
    (one_of c.args.name.now (rows_of found)) c.get_one.result number
    (λ t at. c.get_one.ensures.value t (one_text-rows found c.args.name.now ∙ at)) missing is

pub returns-then-contains-clause-some : goal.returns-then-contains-clause-some
returns-then-contains-clause-some c =
    let found = found_of c.args.matches.now in
    let there : c.get_one.result ≡ Some c.in_ok-number.number = search rules in
    let least : c.args.least ≤ c.in_ok-number.number = search rules in
    let most : c.in_ok-number.number ≤ c.args.most = search rules in
    number_of c.args.least c.args.most _ (λ text r. ParsesUnsigned 32 10 text r × ExplainsUnsignedError 10 text r × HasUnsignedDigitsIfOk text r) (λ t r gives. gives.0)
    (one_of c.args.name.now (rows_of found)) c.get_one.result c.in_ok-number.number
    (λ none. c.get_one.ensures.none (one_text-rows found c.args.name.now ∙ none))
    (λ t at. c.get_one.ensures.value t (one_text-rows found c.args.name.now ∙ at)) there least most

pub returns-else-contains-clause-none : goal.returns-else-contains-clause-none
returns-else-contains-clause-none c none number is =
    let found = found_of c.args.matches.now in
    let there : c.get_one.result ≡ Some c.in_ok-number.number = search rules in
    let outside : (c.args.least ≤ c.in_ok-number.number) × (c.in_ok-number.number ≤ c.args.most) → ⊥ = search rules in
    let number_is : number ≡ c.in_ok-number.number =
    same c.args.least c.args.most _ (λ text r. ParsesUnsigned 32 10 text r × ExplainsUnsignedError 10 text r × HasUnsignedDigitsIfOk text r) (λ t r gives. gives.0)
    (one_of c.args.name.now (rows_of found)) c.get_one.result c.in_ok-number.number number
    (λ t at. c.get_one.ensures.value t (one_text-rows found c.args.name.now ∙ at)) there is in
    let range = in_range c.args.least c.args.most (one_of c.args.name.now (rows_of found)) number is in
    outside (subst (λ (n : ℕ). (c.args.least ≤ n) × (n ≤ c.args.most)) number_is range)

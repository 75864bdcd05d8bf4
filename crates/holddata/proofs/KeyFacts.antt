-- The order of keys is total, and keys that compare alike are one.
use Rattle.std.proofs.Common.{◌≡◌, ◌≢◌, ℕ, zero, suc, List, Bool, true, false, ◌&&◌, refl, sym, ◌∙◌, ap}
use Rattle.std.specs.declared.cmp.Ordering.{Ordering}
use Rattle.std.specs.declared.cmp.Ordering.TheVariants.{Less, Equal, Greater}
use Rattle.std.specs.Cmp.{IsTotalOrder, nat_cmp_total, eq_by_cmp_equiv, unsigned_tied}
use Rattle.std.specs.Cmp.Lexicographic.{slice_cmp, nat_list_cmp_total}
use Rattle.std.specs.Str.{bytes_eq}
use Rattle.std.specs.Ordering.{nat_cmp, ordering_then, is_eq}
use Rattle.std.proofs.lemmas.Cmp.{on_total, then_total}
use Rattle.std.proofs.lemmas.Map.Text.{is_eq-slice_cmp}
use Rattle.std.proofs.lemmas.Map.Lookups.{CmpEqualImpliesEq, exact_unsigned, exact_bytes, exact_pairs}
use Rattle.holddata.specs.declared.key.Kind.{Kind}
use Rattle.holddata.specs.declared.key.Kind.TheVariants.{ErrorHold, SystemHold, UserHold, FixcatHold}
use Rattle.holddata.specs.declared.key.HoldKey.{HoldKey}
use Rattle.holddata.specs.HoldKey.{kind_order, kind_cmp, key_cmp, is_same_kind, is_same_key}
use Rattle.holddata.proofs.FoundFacts as found
use Rattle.holddata.proofs.FoundFacts.{IsKeyOrder, one_key}

-- the kind of a number in the order of kinds
kind_at : ℕ → Kind
kind_at zero = ErrorHold
kind_at (suc zero) = SystemHold
kind_at (suc (suc zero)) = UserHold
kind_at (suc (suc (suc n))) = FixcatHold

kind_at_order : (kind : Kind) → kind_at (kind_order kind) ≡ kind
unfolding kind_at
kind_at_order ErrorHold = refl
kind_at_order SystemHold = refl
kind_at_order UserHold = refl
kind_at_order FixcatHold = refl

exact_kinds : CmpEqualImpliesEq kind_cmp
exact_kinds a b h = sym (kind_at_order a) ∙ ap kind_at (exact_unsigned (kind_order a) (kind_order b) h) ∙ kind_at_order b

pub exact_keys : CmpEqualImpliesEq key_cmp
exact_keys a b h =
    ap (λ (p : List ℕ × (Kind × List ℕ)). record { sysmod = p.0; kind = p.1.0; reason = p.1.1 })
    (exact_pairs (slice_cmp nat_cmp) (λ (x y : Kind × List ℕ). ordering_then (kind_cmp x.0 y.0) (slice_cmp nat_cmp x.1 y.1))
    exact_bytes (exact_pairs kind_cmp (slice_cmp nat_cmp) exact_kinds exact_bytes)
    (a.sysmod, (a.kind, a.reason)) (b.sysmod, (b.kind, b.reason)) h)

pub keys_total : IsTotalOrder key_cmp
keys_total =
    then_total (on_total (λ (k : HoldKey). k.sysmod) nat_list_cmp_total)
    (then_total (on_total (λ (k : HoldKey). kind_order k.kind) nat_cmp_total) (on_total (λ (k : HoldKey). k.reason) nat_list_cmp_total))

-- ---- the comparison decides whether keys are one

pub then_eq : (a b : Ordering) → is_eq (ordering_then a b) ≡ (is_eq a && is_eq b)
then_eq Less b = refl
then_eq Equal b = refl
then_eq Greater b = refl

pub same_is : (a b : HoldKey) → is_eq (key_cmp a b) ≡ is_same_key a b
same_is a b =
    let sysmods = slice_cmp nat_cmp a.sysmod b.sysmod in
    let kinds = kind_cmp a.kind b.kind in
    let reasons = slice_cmp nat_cmp a.reason b.reason in
    then_eq sysmods (ordering_then kinds reasons)
    ∙ ap (λ e. e && is_eq (ordering_then kinds reasons)) (is_eq-slice_cmp a.sysmod b.sysmod)
    ∙ ap (λ e. bytes_eq a.sysmod b.sysmod && e) (then_eq kinds reasons)
    ∙ ap (λ e. bytes_eq a.sysmod b.sysmod && (e && is_eq reasons)) (unsigned_tied (kind_order a.kind) (kind_order b.kind))
    ∙ ap (λ e. bytes_eq a.sysmod b.sysmod && (is_same_kind a.kind b.kind && e)) (is_eq-slice_cmp a.reason b.reason)

pub key_order : IsKeyOrder key_cmp is_same_key
key_order = record { total = keys_total; exact = exact_keys; decides = λ a b. sym (same_is a b) }

pub same_key : (a b : HoldKey) → is_same_key a b ≡ true → a ≡ b
same_key = one_key key_order

pub itself : (a : HoldKey) → is_same_key a a ≡ true
itself = found.itself key_order

pub turned_same : (a b : HoldKey) → is_same_key a b ≡ is_same_key b a
turned_same a b = sym (same_is a b) ∙ (eq_by_cmp_equiv keys_total).symm a b ∙ same_is b a

pub others_differ : (a b : HoldKey) → is_same_key a b ≡ false → b ≢ a
others_differ a b h e = let f : true ≡ false = sym (itself a) ∙ ap (is_same_key a) (sym e) ∙ h in cc

pub differ : (a b : HoldKey) → b ≢ a → is_same_key a b ≡ false
differ a b h = by (is_same_key a b) refl
  where
    by : (same : Bool) → is_same_key a b ≡ same → is_same_key a b ≡ false
    by true is = absurd (h (sym (same_key a b is)))
    by false is = is

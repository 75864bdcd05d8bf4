-- Digits with commas between, one more at a time.
use Rattle.std.proofs.Common.{◌≡◌, ℕ, List, [], ◌∷◌, ◌++◌, length, ap, append_assoc, append-nil, sym, ◌∙◌}
use Rattle.report_runs.specs.Amounts.{grouped, mark_before}

-- the text with the digits that are left is the same after one of them
pub one_more : (all text new digits more : List ℕ) (digit : ℕ) → text ++ grouped digits ≡ all → digits ≡ digit ∷ more → new ≡ text ++ (digit ∷ mark_before (length more))
    → new ++ grouped more ≡ all
one_more all text new digits more digit was first now =
    ap (λ (l : List ℕ). l ++ grouped more) now
    ∙ append_assoc text (digit ∷ mark_before (length more)) (grouped more)
    ∙ ap (λ (l : List ℕ). text ++ grouped l) (sym first) ∙ was

pub none_left : (all text digits : List ℕ) → text ++ grouped digits ≡ all → digits ≡ [] → text ≡ all
none_left all text digits was none = sym (append-nil text) ∙ ap (λ (l : List ℕ). text ++ grouped l) (sym none) ∙ was

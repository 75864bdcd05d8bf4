-- Requisites under a condition: what they name, and what of it is needed in a zone.
use Rattle.std.proofs.Common.{◌≡◌, ℕ, Bool, true, cond, List, [], ◌∷◌, ◌++◌, ap, subst, inl, inr}
use Rattle.std.specs.List.{Contains, filter}
use Rattle.std.proofs.lemmas.List.Elements.{Contains-append_cases, Contains-append_left, Contains-append_right}
use Rattle.lemmas.proofs.ListFacts.{kept_from, map_from, map_inside}
use Rattle.zone_lists.specs.Installed.{is_installed}
use Rattle.zone_lists.specs.declared.zones.ZoneRow.{ZoneRow}
use Rattle.catalogue.specs.declared.conditional.CondNeed.{CondNeed}
use Rattle.supersede.specs.Giving.{each_need, needs_where}

-- what is needed in a zone is named
pub where_named : (rows : List ZoneRow) (conds : List CondNeed) (need : List ℕ) → Contains (needs_where rows conds) need → Contains (each_need conds) need
where_named rows conds need inside =
    let image = map_from (λ (c : CondNeed). c.need) (filter (λ c. is_installed rows c.fmid) conds) need inside in
    let N : List ℕ → Type 0 = λ x. Contains (each_need conds) x in
    subst N image.is (map_inside (λ (c : CondNeed). c.need) conds image.from (kept_from (λ (c : CondNeed). is_installed rows c.fmid) conds image.from image.member).member)

-- so what is needed in a zone may be needed
pub may_be_needed : (rows : List ZoneRow) (always : List (List ℕ)) (conds : List CondNeed) (need : List ℕ) → Contains (always ++ needs_where rows conds) need → Contains (always ++ each_need conds) need
may_be_needed rows always conds need inside = elim (Contains-append_cases always (needs_where rows conds) need inside) [
  | inl own ↦ Contains-append_left always (each_need conds) need own
  | inr named ↦ Contains-append_right always (each_need conds) need (where_named rows conds need named)
]

-- ---- one requisite

pub where_installed : (rows : List ZoneRow) (c : CondNeed) → is_installed rows c.fmid ≡ true → needs_where rows (c ∷ []) ≡ c.need ∷ []
where_installed rows c is = ap (λ (b : Bool). each_need (cond b (c ∷ []) [])) is

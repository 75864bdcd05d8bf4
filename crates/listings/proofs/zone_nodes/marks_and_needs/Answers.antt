use Rattle.std.proofs.Common.{sym, ◌∙◌, ◌++◌, ◌∷◌, [], ◌+◌, ◌<◌, ◌≡◌, List, ap, length, subst, arith, ℕ}
use Rattle.std.specs.List.{Contains}
use Rattle.catalogue.specs.declared.conditional.CondNeed.{CondNeed}
use Rattle.supersede.specs.Giving.{needs_where}
use Rattle.requisites.specs.Nodes.{row}
use Rattle.verdicts.specs.Indices.{id_at, AreIndicesOf, RowsAre}
use Rattle.listings.specs.SeenIndices.{AreSeen}
use Rattle.listings.specs.Sights.{Sight}
use Rattle.verdicts.proofs.IndexFacts.{length-push, rows_more}
use Rattle.listings.proofs.SeenFacts.{seen_more}
use Rattle.listings.proofs.zone_nodes.marks_and_needs.Goals as goal

pub loop-index-preserved : goal.loop-index-preserved
loop-index-preserved c =
    let members = c.args.members.now in
    let index = c.loop-index.index in
    let needs = c.put_needs_where.new.indices.items in
    let sight = c.entry_at-entry.result.now in
    let test = c.loop-index-test.true in
    let as_many = c.requires.listed in
    let here : index < length members = omega (arith, as_many, test) in
    let A : List ℕ → Type 0 = λ l. AreIndicesOf members sight.needs l in
    let N : Sight → Type 0 = λ s. AreIndicesOf members s.needs (row c.args.always.now index) in
    let C : List CondNeed → Type 0 = λ conds. AreIndicesOf members (sight.needs ++ needs_where c.args.zone.now conds) needs in
    let always = subst A (sym c.row-always.ensures) (subst N (sym c.entry_at-entry.ensures.value) (c.requires.needs.each index test)) in
    let needs_are = subst C (c.as_slice.ensures.value ∙ c.conds.ensures) (c.in_ok-put_needs_where.ensures sight.needs always) in
    let needs_pushed = c.in_ok-push_row.ensures.rows ∙ ap (λ (row : List ℕ). c.loop-index.needs ++ row ∷ []) c.deref.ensures.value in
    record {
      seen = λ f ids are stand.
          seen_more c.args.zone.now f ids members index c.entry_at-entry.result.now
          c.loop-index.candidates.items _ c.loop-index.needs _ c.is_candidate.result needs
          (c.entry_at-entry.ensures.seen f ids (id_at members index) are (stand.each index here))
          c.is_candidate.ensures needs_are
          (c.loop-index.invariant.seen f ids are stand) c.in_ok-push.ensures.items needs_pushed;
      len = ap length c.in_ok-push.ensures.items ∙ length-push c.loop-index.candidates.items c.is_candidate.result ∙ ap (λ k. k + 1) c.loop-index.invariant.len;
      within = rows_more (λ p indices. (q : ℕ) → Contains indices q → q < length members) index c.loop-index.needs _ needs
          c.loop-index.invariant.within needs_are.within needs_pushed;
    }

pub returns-clause-within : goal.returns-clause-within
returns-clause-within c =
    let members = c.args.members.now in
    let as_many = c.requires.listed in
    let all : c.loop-index.index ≡ length members = omega arith in
    let R : ℕ → Type 0 = λ n. RowsAre (λ p indices. (q : ℕ) → Contains indices q → q < length members) n c.loop-index.needs in
    record { len = c.loop-index.invariant.len ∙ all; needs_are = subst R all c.loop-index.invariant.within }

pub returns-clause-seen : goal.returns-clause-seen
returns-clause-seen c = λ f ids are stand.
    let members = c.args.members.now in
    let as_many = c.requires.listed in
    let all : c.loop-index.index ≡ length members = omega arith in
    let R : ℕ → Type 0 = λ n. AreSeen c.args.zone.now f ids members n c.loop-index.candidates.items c.loop-index.needs in
    subst R all (c.loop-index.invariant.seen f ids are stand)

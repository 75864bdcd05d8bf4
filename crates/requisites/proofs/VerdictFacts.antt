-- Verdicts by node.
use Rattle.std.proofs.Common.{◌≡◌, ℕ, ◌<◌, List, [], ◌∷◌, ◌++◌, Bool, true, false, Option, Some, None, length, refl, sym, subst, inl, inr}
use Rattle.std.specs.List.{Contains}
use Rattle.std.proofs.lemmas.List.Elements.{Contains-append_left, Contains-push, Contains-push_cases}
use Rattle.requisites.specs.Leads.{Leads}
use Rattle.requisites.specs.World.{IsGood, IsGoodGiver, IsHeldFor, IsPick, IsPlan}
use Rattle.requisites.specs.Nodes.{IsMarked, Links, mark_of, row, world}
use Rattle.requisites.specs.Sources.{source_of}
use Rattle.requisites.specs.Good.{AreGood, AreMet, IsLeastOpen}
use Rattle.requisites.specs.declared.nodes.Nodes.{Nodes}
use Rattle.requisites.proofs.SourceFacts.{marked_inside}
use Rattle.requisites.proofs.PlanFacts.{marked_indices, marked-indices, indices-marked}
use Rattle.requisites.proofs.PickFacts.{pick_none, unmarked}

-- ---- the chosen plan

pub good_of_pick : (nodes : Nodes) (need z : ℕ) → IsPick (world nodes) need z → IsGood (world nodes) z
good_of_pick nodes need z (inl itself) = let P : ℕ → Type 0 = λ k. IsGood (world nodes) k in subst P (sym itself.1) itself.0
good_of_pick nodes need z (inr least) = least.1.holds.good

pub good_inside : (nodes : Nodes) (z : ℕ) → IsGood (world nodes) z → z < length nodes.candidates.items
good_inside nodes z good = marked_inside nodes.candidates.items z (good.plan.candidates z good.member)

-- ---- the blocked need

pub held_for : (nodes : Nodes) (good : List Bool) (givers : List (Option ℕ)) (x need : ℕ) → AreGood nodes good givers → mark_of good x ≡ false → mark_of nodes.candidates.items x ≡ true → IsLeastOpen nodes givers (row nodes.needs x) need → IsHeldFor (world nodes) x need
held_for nodes good givers x need a off candidate least = record {
  candidate = record { is = candidate };
  held = λ is_good. unmarked good x off (a.unmarked x is_good);
  blocked = record {
    holds = record {
      needs = least.is_open.needs;
      absent = unmarked nodes.there.items need least.is_open.absent;
      ungiven = pick_none nodes good givers need a least.is_open.ungiven;
    };
    least = λ y unmet. least.least y (record {
      needs = unmet.needs;
      absent = not_marked y unmet.absent (mark_of nodes.there.items y) refl;
      ungiven = not_given y unmet.ungiven (source_of givers y) refl;
    });
  };
} where
  not_marked : (y : ℕ) → (IsMarked nodes.there.items y → ⊥) → (b : Bool) → mark_of nodes.there.items y ≡ b → mark_of nodes.there.items y ≡ false
  not_marked y absent false e = e
  not_marked y absent true e = absurd (absent (record { is = e }))

  not_given : (y : ℕ) → ((z : ℕ) → IsGoodGiver (world nodes) y z → ⊥) → (o : Option ℕ) → source_of givers y ≡ o → source_of givers y ≡ None
  not_given y ungiven None e = e
  not_given y ungiven (Some s) e =
      let source = a.given_by.reached y s e in
      absurd (ungiven s (record { good = a.marked s source.marked; gives = (let P : ℕ → Type 0 = λ k. Leads (Links nodes.supersedes k) s y in subst P a.len source.leads) }))

-- a candidate each of whose needs is there or given by a good node is good
pub met_is_good : (nodes : Nodes) (good : List Bool) (givers : List (Option ℕ)) (x : ℕ) → AreGood nodes good givers → mark_of nodes.candidates.items x ≡ true → AreMet nodes givers (row nodes.needs x) → IsGood (world nodes) x
met_is_good nodes good givers x a candidate met = record { members = with_x; plan = plan; member = Contains-push (marked_indices good) x } where
  with_x : List ℕ
  with_x = marked_indices good ++ x ∷ []

  plan : IsPlan (world nodes) (marked_indices good ++ x ∷ [])
  plan = record {
    candidates = λ y inside. elim (Contains-push_cases (marked_indices good) x y inside) [
      | inl before ↦ (let is_good = a.marked y (indices-marked good y before) in is_good.plan.candidates y is_good.member)
      | inr same ↦ (let P : ℕ → Type 0 = λ k. IsMarked nodes.candidates.items k in subst P same (record { is = candidate }))
    ];
    needs_met = λ y r inside needs. elim (Contains-push_cases (marked_indices good) x y inside) [
      | inl before ↦ (let is_good = a.marked y (indices-marked good y before) in elim (is_good.plan.needs_met y r is_good.member needs) [
        | inl there ↦ inl there
        | inr given ↦ inr (record {
          giver = given.giver;
          member = Contains-append_left (marked_indices good) (x ∷ []) given.giver (marked-indices good given.giver (a.unmarked given.giver (record { members = is_good.members; plan = is_good.plan; member = given.member })));
          gives = given.gives;
        })
      ])
      | inr same ↦ elim (met.met r (let P : ℕ → Type 0 = λ k. Contains (row nodes.needs k) r in subst P (sym same) needs)) [
        | inl there ↦ inl there
        | inr had ↦ (let source = a.given_by.reached r had.source had.is in inr (record {
          giver = had.source;
          member = Contains-append_left (marked_indices good) (x ∷ []) had.source (marked-indices good had.source source.marked);
          gives = (let P : ℕ → Type 0 = λ k. Leads (Links nodes.supersedes k) had.source r in subst P a.len source.leads);
        }))
      ]
    ];
  }

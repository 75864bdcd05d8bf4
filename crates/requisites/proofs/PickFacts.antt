-- Picks, and what they lead to.
use Rattle.std.proofs.Common.{◌≡◌, ℕ, ◌+◌, ◌<◌, ◌≤◌, List, [], ◌∷◌, ◌++◌, Bool, true, false, Option, Some, None, length, get_or, take, refl, sym, ◌∙◌, subst, inl, inr, arith}
use Rattle.std.specs.Prelude.{IfNone, IfSome}
use Rattle.std.specs.List.{Contains}
use Rattle.std.proofs.lemmas.List.{take_all, take_more}
use Rattle.std.proofs.lemmas.List.Elements.{Contains-append_left, Contains-push, Contains-push_cases}
use Rattle.requisites.specs.Leads.{Leads}
use Rattle.requisites.proofs.LeadsFacts.{leads_itself}
use Rattle.requisites.specs.World.{IsGoodGiver, IsPick}
use Rattle.requisites.specs.Nodes.{IsMarked, Links, mark_of, row, world}
use Rattle.requisites.specs.Sources.{IsLeastSource, source_of}
use Rattle.requisites.specs.Good.{AreGood}
use Rattle.requisites.specs.Picks.{ArePicksFor, HasNoPick, IsNeedPick}
use Rattle.requisites.specs.declared.nodes.Nodes.{Nodes}

pub unmarked : (marks : List Bool) (p : ℕ) → mark_of marks p ≡ false → IsMarked marks p → ⊥
unmarked marks p off marked = let on : mark_of marks p ≡ true = marked.is in cc

pub pick_itself : (nodes : Nodes) (good : List Bool) (givers : List (Option ℕ)) (need : ℕ) → AreGood nodes good givers → mark_of nodes.there.items need ≡ false → mark_of good need ≡ true → IsNeedPick nodes need need
pick_itself nodes good givers need a absent on = record { absent = unmarked nodes.there.items need absent; pick = inl (a.marked need (record { is = on }), refl) }

pub pick_least : (nodes : Nodes) (good : List Bool) (givers : List (Option ℕ)) (need z : ℕ) → AreGood nodes good givers → mark_of nodes.there.items need ≡ false → mark_of good need ≡ false → source_of givers need ≡ Some z → IsNeedPick nodes need z
pick_least nodes good givers need z a absent off e = record {
  absent = unmarked nodes.there.items need absent;
  pick = inr (
    (λ is_good. unmarked good need off (a.unmarked need is_good)),
    record {
      holds = record { good = a.marked z source.marked; gives = at_indices (length good) (length nodes.candidates.items) a.len source.leads };
      least = λ y giver. source.least y (a.unmarked y giver.good) (at_indices (length nodes.candidates.items) (length good) (sym a.len) giver.gives);
    },
  );
} where
  source : IsLeastSource nodes.supersedes good (length good) need z
  source = a.given_by.reached need z e

  at_indices : (m n : ℕ) {u : ℕ} → m ≡ n → Leads (Links nodes.supersedes m) u need → Leads (Links nodes.supersedes n) u need
  at_indices m n {u} same leads = let P : ℕ → Type 0 = λ k. Leads (Links nodes.supersedes k) u need in subst P same leads

pub pick_none : (nodes : Nodes) (good : List Bool) (givers : List (Option ℕ)) (need : ℕ) → AreGood nodes good givers → source_of givers need ≡ None → (z : ℕ) → IsGoodGiver (world nodes) need z → ⊥
pick_none nodes good givers need a e z giver =
    a.given_by.unreached need z e (a.unmarked z giver.good)
    (let P : ℕ → Type 0 = λ k. Leads (Links nodes.supersedes k) z need in subst P (sym a.len) giver.gives)

pub pick_some : (nodes : Nodes) (good : List Bool) (givers : List (Option ℕ)) (need : ℕ) → AreGood nodes good givers → mark_of nodes.there.items need ≡ false → mark_of good need ≡ false → (o : Option ℕ) → source_of givers need ≡ o → IfSome o (λ z. IsNeedPick nodes need z)
pick_some nodes good givers need a absent off None e = tt
pick_some nodes good givers need a absent off (Some z) e = pick_least nodes good givers need z a absent off e

pub pick_lacks : (nodes : Nodes) (good : List Bool) (givers : List (Option ℕ)) (need : ℕ) → AreGood nodes good givers → (o : Option ℕ) → source_of givers need ≡ o → IfNone o (HasNoPick nodes need)
pick_lacks nodes good givers need a None e = inr (pick_none nodes good givers need a e)
pick_lacks nodes good givers need a (Some z) e = tt

-- a need of a list, and its pick
pub record IsPickedFrom (nodes : Nodes) (listed : List ℕ) (z : ℕ) : Type 0 where
  pub need : ℕ
  pub needs : Contains listed need
  pub pick : IsNeedPick nodes need z

-- the picks for the needs read so far
pub record ArePickedFrom (nodes : Nodes) (listed picks : List ℕ) : Type 0 where
  pub picked : (z : ℕ) → Contains picks z → IsPickedFrom nodes listed z
  pub whole : (z : ℕ) → IsPickedFrom nodes listed z → Contains picks z

one_pick : (nodes : Nodes) (need y z : ℕ) → IsPick (world nodes) need y → IsPick (world nodes) need z → y ≡ z
one_pick nodes need y z (inl a) (inl b) = a.1 ∙ sym b.1
one_pick nodes need y z (inl a) (inr b) = absurd (b.0 a.0)
one_pick nodes need y z (inr a) (inl b) = absurd (a.0 b.0)
one_pick nodes need y z (inr a) (inr b) = let up : y ≤ z = a.1.least z b.1.holds in let down : z ≤ y = b.1.least y a.1.holds in omega arith

no_pick : (nodes : Nodes) (need z : ℕ) → HasNoPick nodes need → IsNeedPick nodes need z → ⊥
no_pick nodes need z (inl there) p = p.absent there
no_pick nodes need z (inr ungiven) p = go p.pick where
  go : IsPick (world nodes) need z → ⊥
  go (inl itself) = ungiven need (record { good = itself.0; gives = leads_itself (Links nodes.supersedes (length nodes.candidates.items)) need })
  go (inr other) = ungiven z other.1.holds

pub picked_none : (nodes : Nodes) → ArePickedFrom nodes [] []
picked_none nodes = record {
  picked = λ z inside. absurd (omega (arith, inside.1));
  whole = λ z from. absurd (let inside = from.needs in omega (arith, inside.1));
}

wider : (nodes : Nodes) (listed : List ℕ) (need z : ℕ) → IsPickedFrom nodes listed z → IsPickedFrom nodes (listed ++ need ∷ []) z
wider nodes listed need z from = record { need = from.need; needs = Contains-append_left listed (need ∷ []) from.need from.needs; pick = from.pick }

pub picked_more : (nodes : Nodes) (listed picks : List ℕ) (need z : ℕ) → ArePickedFrom nodes listed picks → IsNeedPick nodes need z → ArePickedFrom nodes (listed ++ need ∷ []) (picks ++ z ∷ [])
picked_more nodes listed picks need z a p = record {
  picked = λ y inside. elim (Contains-push_cases picks z y inside) [
    | inl before ↦ wider nodes listed need y (a.picked y before)
    | inr same ↦ (let P : ℕ → Type 0 = λ k. IsPickedFrom nodes (listed ++ need ∷ []) k in subst P same (record { need = need; needs = Contains-push listed need; pick = p }))
  ];
  whole = λ y from. elim (Contains-push_cases listed need from.need from.needs) [
    | inl before ↦ Contains-append_left picks (z ∷ []) y (a.whole y (record { need = from.need; needs = before; pick = from.pick }))
    | inr same ↦ (let own : IsNeedPick nodes need y = (let P : ℕ → Type 0 = λ k. IsNeedPick nodes k y in subst P (sym same) from.pick) in
        let e : z ≡ y = one_pick nodes need z y p.pick own.pick in
        let Q : ℕ → Type 0 = λ k. Contains (picks ++ z ∷ []) k in subst Q e (Contains-push picks z))
  ];
}

pub picked_skip : (nodes : Nodes) (listed picks : List ℕ) (need : ℕ) → ArePickedFrom nodes listed picks → HasNoPick nodes need → ArePickedFrom nodes (listed ++ need ∷ []) picks
picked_skip nodes listed picks need a none = record {
  picked = λ y inside. wider nodes listed need y (a.picked y inside);
  whole = λ y from. elim (Contains-push_cases listed need from.need from.needs) [
    | inl before ↦ a.whole y (record { need = from.need; needs = before; pick = from.pick })
    | inr same ↦ absurd (no_pick nodes need y none (let P : ℕ → Type 0 = λ k. IsNeedPick nodes k y in subst P (sym same) from.pick))
  ];
}

pub picked_step : (nodes : Nodes) (listed : List ℕ) (i : ℕ) (picks : List ℕ) → i < length listed → ArePickedFrom nodes (take i listed ++ get_or listed i 0 ∷ []) picks → ArePickedFrom nodes (take (i + 1) listed) picks
picked_step nodes listed i picks inside a = rw (take_more listed i 0 inside) a

pub picked_all : (nodes : Nodes) (p : ℕ) (listed picks : List ℕ) → listed ≡ row nodes.needs p → ArePickedFrom nodes listed picks → ArePicksFor nodes p picks
picked_all nodes p listed picks same a = record {
  picked = λ z inside. let from = a.picked z inside in record {
    need = from.need;
    needs = (let P : List ℕ → Type 0 = λ l. Contains l from.need in subst P same from.needs);
    absent = from.pick.absent;
    pick = from.pick.pick;
  };
  whole = λ z for_need. a.whole z (record {
    need = for_need.need;
    needs = (let P : List ℕ → Type 0 = λ l. Contains l for_need.need in subst P (sym same) for_need.needs);
    pick = record { absent = for_need.absent; pick = for_need.pick };
  });
}

pub picked_listed : (nodes : Nodes) (p : ℕ) (listed : List ℕ) (i : ℕ) (picks : List ℕ) → listed ≡ row nodes.needs p → i ≡ length listed → ArePickedFrom nodes (take i listed) picks → ArePicksFor nodes p picks
picked_listed nodes p listed i picks same end a =
    picked_all nodes p listed picks same (let P : List ℕ → Type 0 = λ l. ArePickedFrom nodes l picks in subst P (take_all i listed (omega arith)) a)

-- the picks for what a branch left
pub picked_left : (nodes : Nodes) (listed p p' : List ℕ) → p' ≡ p → ArePickedFrom nodes listed p → ArePickedFrom nodes listed p'
picked_left nodes listed p p' same a = let P : List ℕ → Type 0 = λ l. ArePickedFrom nodes listed l in subst P (sym same) a

-- The least sources, start by start.
use Rattle.std.proofs.Common.{◌≡◌, ℕ, ◌+◌, ◌<◌, List, [], Bool, true, false, Option, Some, None, length, sym, ◌∙◌, subst, inl, inr, arith}
use Rattle.std.proofs.lemmas.Bool.{cases_lt}
use Rattle.std.proofs.lemmas.List.{get_or_past}
use Rattle.requisites.specs.Leads.{Leads}
use Rattle.requisites.specs.Nodes.{IsMarked, Links, mark_of}
use Rattle.requisites.specs.Sources.{AreLeastSources, HasSource, IsLeastSource, source_of}
use Rattle.requisites.specs.Spread.{AreClosed, IsSpread, SourcesSpread}
use Rattle.requisites.proofs.LeadsFacts.{leads_closed}
use Rattle.requisites.proofs.SpreadFacts.{none≢some}

-- the sources as far as the marked nodes below p are done
pub record AreSourcesBelow (lists : List (List ℕ)) (marks : List Bool) (n p : ℕ) (sources : List (Option ℕ)) : Type 0 where
  pub len : length sources ≡ n
  pub reached : (q s : ℕ) → source_of sources q ≡ Some s → IsLeastSource lists marks n q s
  pub closed : AreClosed lists sources []
  pub done : (m q : ℕ) → m < p → IsMarked marks m → Leads (Links lists n) m q → HasSource sources q

pub sources_begin : (lists : List (List ℕ)) (marks : List Bool) (n : ℕ) (sources : List (Option ℕ)) → length sources ≡ n → ((q : ℕ) → source_of sources q ≡ None) → AreSourcesBelow lists marks n 0 sources
sources_begin lists marks n sources len none = record {
  len = len;
  reached = λ q s e. absurd (none≢some (source_of sources q) s (none q) e);
  closed = record { closed = λ p q had link. absurd (none≢some (source_of sources p) had.source (none p) had.is) };
  done = λ m q h marked leads. absurd (omega arith);
}

at_length : (lists : List (List ℕ)) (m n p q : ℕ) → m ≡ n → Leads (Links lists m) p q → Leads (Links lists n) p q
at_length lists m n p q e leads = let P : ℕ → Type 0 = λ k. Leads (Links lists k) p q in subst P e leads

-- a marked node is done
pub sources_more : (lists : List (List ℕ)) (marks : List Bool) (n p : ℕ) (old new : List (Option ℕ)) → AreSourcesBelow lists marks n p old → p < n → IsMarked marks p → SourcesSpread lists p old new → AreClosed lists new [] → AreSourcesBelow lists marks n (p + 1) new
sources_more lists marks n p old new a inside marked spread closed = record {
  len = spread.len ∙ a.len;
  reached = λ q s e. elim (spread.spread q s e) [
    | inl was ↦ a.reached q s was
    | inr fresh ↦ (let P : ℕ → Type 0 = λ k. IsLeastSource lists marks n q k in subst P (sym fresh.source) (from_p q s fresh))
  ];
  closed = closed;
  done = λ m q h is leads. elim (cases_lt m p) [
    | inl below ↦ still q (a.done m q below is leads)
    | inr above ↦ (let same : m ≡ p = omega arith in reach q (let P : ℕ → Type 0 = λ k. Leads (Links lists n) k q in subst P same leads))
  ];
} where
  still : (q : ℕ) → HasSource old q → HasSource new q
  still q had = record { source = had.source; is = spread.stays q had.source had.is }

  from_p : (q s : ℕ) → IsSpread lists p old q s → IsLeastSource lists marks n q p
  from_p q s fresh = record {
    marked = marked;
    leads = at_length lists (length old) n p q a.len fresh.leads;
    least = λ m is leads. elim (cases_lt m p) [
      | inl below ↦ (let had = a.done m q below is leads in absurd (none≢some (source_of old q) had.source fresh.before had.is))
      | inr above ↦ above
    ];
  }

  onward : (u v : ℕ) → HasSource new u → Links lists n u v → HasSource new v
  onward u v had link =
      elim (closed.closed u v had (record { listed = link.listed; index = omega (arith, link.index, spread.len, a.len) })) [
        | inl has ↦ has
        | inr none ↦ absurd (omega (arith, none.1))
      ]

  reach : (q : ℕ) → Leads (Links lists n) p q → HasSource new q
  reach q leads = leads_closed (HasSource new) onward (spread.begun (omega (arith, a.len))) leads

-- an unmarked node is passed over
pub sources_skip : (lists : List (List ℕ)) (marks : List Bool) (n p : ℕ) (sources : List (Option ℕ)) → AreSourcesBelow lists marks n p sources → mark_of marks p ≡ false → AreSourcesBelow lists marks n (p + 1) sources
sources_skip lists marks n p sources a unmarked = record {
  len = a.len;
  reached = a.reached;
  closed = a.closed;
  done = λ m q h is leads. elim (cases_lt m p) [
    | inl below ↦ a.done m q below is leads
    | inr above ↦ absurd (let same : m ≡ p = omega arith in let on : mark_of marks p ≡ true = (let P : ℕ → Type 0 = λ k. mark_of marks k ≡ true in subst P same is.is) in cc)
  ];
}

-- a marked node is a node
pub marked_inside : (marks : List Bool) (m : ℕ) → IsMarked marks m → m < length marks
marked_inside marks m marked =
    elim (cases_lt m (length marks)) [
      | inl inside ↦ inside
      | inr past ↦ absurd (let off : mark_of marks m ≡ false = get_or_past marks m false past in let on : mark_of marks m ≡ true = marked.is in cc)
    ]

pub sources_end : (lists : List (List ℕ)) (marks : List Bool) (sources : List (Option ℕ)) → AreSourcesBelow lists marks (length marks) (length marks) sources → AreLeastSources lists marks sources
sources_end lists marks sources a = record {
  reached = a.reached;
  unreached = λ q m none marked leads.
      let had = a.done m q (marked_inside marks m marked) marked leads in
      none≢some (source_of sources q) had.source none had.is;
}

-- the invariant for what a branch left
pub sources_kept : (lists : List (List ℕ)) (marks : List Bool) (n p : ℕ) (s s' : List (Option ℕ)) (w w' : List ℕ) → s' ≡ s → w' ≡ w → AreSourcesBelow lists marks n p s → w ≡ [] → AreSourcesBelow lists marks n p s' × (w' ≡ [])
sources_kept lists marks n p s s' w w' same_s same_w a idle =
    ((let P : List (Option ℕ) → Type 0 = λ k. AreSourcesBelow lists marks n p k in subst P (sym same_s) a), same_w ∙ idle)

pub all_below : (lists : List (List ℕ)) (marks : List Bool) (n p : ℕ) (sources : List (Option ℕ)) → AreSourcesBelow lists marks n p sources → n ≡ length marks → p ≡ length marks → AreLeastSources lists marks sources
all_below lists marks n p sources a same_n same_p =
    sources_end lists marks sources
    (let P : ℕ → Type 0 = λ k. AreSourcesBelow lists marks k (length marks) sources in subst P same_n
    (let Q : ℕ → Type 0 = λ k. AreSourcesBelow lists marks n k sources in subst Q same_p a))

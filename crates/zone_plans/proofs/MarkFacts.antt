-- Starts, and what is reached from them.
use Rattle.std.proofs.Common.{◌≡◌, ◌∙◌, ◌<◌, ℕ, List, [], Bool, false, Option, Some, None, length, get_or, map, refl, sym, ap, subst, arith}
use Rattle.std.proofs.lemmas.List.{length-map, get_or-map}
use Rattle.supersede.specs.Reach.{has}
use Rattle.requisites.specs.Leads.{Leads}
use Rattle.requisites.specs.Nodes.{IsMarked, Links, mark_of}
use Rattle.requisites.specs.Sources.{AreLeastSources, HasSource, source_of}
use Rattle.requisites.proofs.LeadsFacts.{leads_more}
use Rattle.requisites.proofs.SourceFacts.{marked_inside}
use Rattle.install_order.specs.Steps.{AreInOrder, IsClosed}
use Rattle.std.proofs.lemmas.List.Elements.{Contains-get_or}
use Rattle.supersede.proofs.ReachFacts.{has_from, has_to}
use Rattle.verdicts.specs.Indices.{id_at}
use Rattle.zone_plans.specs.Graphs.{AreReachedFrom, AreSourced, AreStarts, AreStartsOf, AreWithin}

sourced_by : (lists : List (List ℕ)) (marks : List Bool) (sources : List (Option ℕ)) (q m : ℕ) → AreLeastSources lists marks sources → IsMarked marks m → Leads (Links lists (length marks)) m q → (o : Option ℕ) → source_of sources q ≡ o → HasSource sources q
sourced_by lists marks sources q m are marked leads None e = absurd (are.unreached q m e marked leads)
sourced_by lists marks sources q m are marked leads (Some s) e = record { source = s; is = e }

pub starts_by : (ids : List (List ℕ)) (above : List (List ℕ)) (left : List Bool) (chosen : List (List ℕ)) (marks : List Bool) (sources : List (Option ℕ)) (starts : List Bool) → length left ≡ length ids
    → marks ≡ map (has chosen) ids → AreLeastSources above marks sources → AreStarts left sources starts → AreStartsOf ids above left chosen starts
starts_by ids above left chosen marks sources starts len marked least are = record {
  len = are.len ∙ len;
  marked = λ p on.
      let is = are.marked p on in
      let from = least.reached p is.sourced.source is.sourced.is in
      let within : is.sourced.source < length ids = omega (arith, marked_inside marks is.sourced.source from.marked, as_many) in
      record {
        marked = is.marked;
        resolver = is.sourced.source;
        within = within;
        is_chosen = has_to chosen (id_at ids is.sourced.source) (sym (mark_at is.sourced.source within) ∙ from.marked.is);
        leads = (let P : ℕ → Type 0 = λ k. Leads (Links above k) is.sourced.source p in subst P as_many from.leads);
      };
  whole = λ p is.
      let on : IsMarked marks is.resolver = record { is = mark_at is.resolver is.within ∙ has_from chosen (id_at ids is.resolver) is.is_chosen } in
      let P : ℕ → Type 0 = λ k. Leads (Links above k) is.resolver p in
      are.whole p (record { marked = is.marked; sourced = sourced_by above marks sources p is.resolver least on (subst P (sym as_many) is.leads) (source_of sources p) refl });
} where
  as_many : length marks ≡ length ids
  as_many = ap length marked ∙ length-map ids (has chosen)

  mark_at : (p : ℕ) → p < length ids → mark_of marks p ≡ has chosen (id_at ids p)
  mark_at p within = ap (λ (l : List Bool). mark_of l p) marked ∙ get_or-map (has chosen) ids p [] false within

pub members_by : (needs : List (List ℕ)) (starts : List Bool) (sources : List (Option ℕ)) (members : List Bool) → length sources ≡ length starts → AreLeastSources needs starts sources → AreSourced sources members → AreReachedFrom needs starts members
members_by needs starts sources members len least are = record {
  len = are.len ∙ len;
  marked = λ p on.
      let had = are.marked p on in
      let from = least.reached p had.source had.is in
      record { start = had.source; marked = from.marked; leads = from.leads };
  whole = λ p is. are.whole p (sourced_by needs starts sources p is.start least is.marked is.leads (source_of sources p) refl);
}

-- what a member needs is one
pub reached_closed : (needs : List (List ℕ)) (starts members : List Bool) → AreReachedFrom needs starts members → IsClosed needs members
reached_closed needs starts members reached = λ p q marked link.
    let from = reached.marked p marked in
    let index = link.index in
    reached.whole q (record { start = from.start; marked = from.marked; leads = leads_more from.leads (record { listed = link.listed; index = omega (arith, index, reached.len) }) })

-- what stands in a step is the index of an id
pub within_by : (ids : List (List ℕ)) (needs : List (List ℕ)) (starts members : List Bool) (steps : List (List ℕ)) → length members ≡ length ids → AreInOrder needs members steps → AreWithin ids steps
within_by ids needs starts members steps len stepped = λ k p below inside.
    let marked = stepped.only p (record { step = get_or steps k []; listed = Contains-get_or steps k [] below; member = inside }) in
    omega (arith, marked_inside members p marked, len)

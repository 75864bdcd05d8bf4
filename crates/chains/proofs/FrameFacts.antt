-- Frames: what steps lead to, and what stays where contents agree.
use Rattle.std.proofs.Common.{◌≡◌, ◌∙◌, ℕ, Bool, true, false, List, [], ◌∷◌, ◌++◌, map, is_some, Option, refl, sym, ap, subst, inl, inr}
use Rattle.std.specs.Prelude.{◌↔◌}
use Rattle.std.specs.Bool.{OnFalse}
use Rattle.std.specs.List.{Contains, list_any}
use Rattle.std.proofs.lemmas.List.Kept.{IsStrictlySortedBy-filter}
use Rattle.lemmas.proofs.ListFacts.{any_at, first_inside, kept_from, kept_inside, map_from, rest_inside}
use Rattle.catalogue.specs.Content.{Content, IsCatalogued, IsInOrder, Supersedes, error_reasons, ids_of, record_of}
use Rattle.catalogue.specs.Ids.{Ascend, id_cmp, in_order, same_id}
use Rattle.catalogue.specs.Touched.{AgreeOutside}
use Rattle.catalogue.specs.declared.sysmod.Sysmod.{Sysmod}
use Rattle.catalogue.proofs.IdFacts.{itself}
use Rattle.catalogue.proofs.SupersedeFacts.{superseder_catalogued, superseder_is}
use Rattle.requisites.specs.Leads.{Leads}
use Rattle.requisites.proofs.LeadsFacts.{leads_closed, leads_itself, leads_more}
use Rattle.supersede.specs.Giving.{always_needs, conds_of, each_need, fmids_of, gives, givers_of, may_need, requisites_of}
use Rattle.supersede.specs.Leading.{Gives, IsWay}
use Rattle.supersede.proofs.LeadingFacts.{gives_is}
use Rattle.verdicts.specs.Indices.{id_at}
use Rattle.chains.specs.Frames as frames
use Rattle.chains.specs.Frames.{AreApart, FrameLists, FramesStay, IsFrame, StepsTo, node_of, shares}
use Rattle.chains.specs.declared.frames.FrameNode.{FrameNode}
use Rattle.verdicts.proofs.OrderFacts.{ascending_same}
use Rattle.verdicts.proofs.IndexFacts.{at_inside}
use Rattle.listings.proofs.WayFacts.{listed_record, record_listed}

-- ---- givers and records

pub giver_is : (content : Content) (id giver : List ℕ) → Contains (givers_of content id) giver ↔ Gives content giver id
giver_is content id giver = (
  λ inside. (gives_is content giver id).0 (kept_from (λ (g : List ℕ). gives content g id) (ids_of content) giver inside).passes,
  λ is. kept_inside (λ (g : List ℕ). gives content g id) (ids_of content) giver is.catalogued ((gives_is content giver id).1 is),
)

pub givers_ascend : (content : Content) (id : List ℕ) → Ascend (ids_of content) → Ascend (givers_of content id)
givers_ascend content id ascend = IsStrictlySortedBy-filter id_cmp (λ giver. gives content giver id) (ids_of content) ascend

-- what supersedes another directly gives it
pub direct_gives : (content : Content) (y x : List ℕ) → IsInOrder content → Supersedes content y x → Gives content y x
direct_gives content y x ordered step = record {
  catalogued = superseder_catalogued content x y ((superseder_is content x y ordered).1 step);
  way = x ∷ [];
  leads = (step, refl);
}

-- equal at each of a list, equal maps
pub map_same : {X Y : Type 0} (f g : X → Y) (xs : List X) → ((x : X) → Contains xs x → f x ≡ g x) → map f xs ≡ map g xs
map_same f g [] same = refl
map_same {X} {Y} f g (x ∷ xs) same =
    ap (λ (y : Y). y ∷ map f xs) (same x (first_inside x xs)) ∙ ap (λ (ys : List Y). g x ∷ ys) (map_same f g xs (λ y inside. same y (rest_inside x y xs inside)))

-- ---- where contents agree

node_with : List ℕ → Option Sysmod → List (List ℕ) → List (List ℕ) → FrameNode
node_with id found needs givers =
    record { id = id; catalogued = is_some found; fmids = fmids_of found; needs = in_order needs; conds = conds_of found; givers = givers }

module _ (ids : List (List ℕ)) (old new : Content) (start : List ℕ) (frame : FrameLists) (ordered_old : IsInOrder old) (ordered_new : IsInOrder new)
    (agree : AgreeOutside ids old new) (apart : AreApart (frames.ids_in frame.nodes) ids) (is : IsFrame old start frame) where
  abbrev members : List (List ℕ)
  members = frames.ids_in frame.nodes

  same_record : (id : List ℕ) → Contains members id → record_of new id ≡ record_of old id
  same_record id inside = agree.records id (λ touched. apart id inside touched)

  always_same : (id : List ℕ) → Contains members id → always_needs new id ≡ always_needs old id
  always_same id inside =
      ap (λ found. requisites_of found ++ error_reasons new id) (same_record id inside)
      ∙ ap (λ reasons. requisites_of (record_of old id) ++ reasons) (agree.reasons id (λ touched. apart id inside touched))

  same_needs : (id : List ℕ) → Contains members id → may_need new id ≡ may_need old id
  same_needs id inside =
      ap (λ needs. needs ++ each_need (conds_of (record_of new id))) (always_same id inside)
      ∙ ap (λ found. always_needs old id ++ each_need (conds_of found)) (same_record id inside)

  step_back : (y x : List ℕ) → Contains members x → Supersedes new y x → Supersedes old y x
  step_back y x inside step =
      let P : List (List ℕ) → Type 0 = λ l. Contains l y in
      (superseder_is old x y ordered_old).0 (subst P (agree.above x (λ touched. apart x inside touched)) ((superseder_is new x y ordered_new).1 step))

  step_on : (y x : List ℕ) → Contains members x → Supersedes old y x → Supersedes new y x
  step_on y x inside step =
      let P : List (List ℕ) → Type 0 = λ l. Contains l y in
      (superseder_is new x y ordered_new).0 (subst P (sym (agree.above x (λ touched. apart x inside touched))) ((superseder_is old x y ordered_old).1 step))

  step_inside : (from to : List ℕ) → Contains members from → StepsTo old from to → Contains members to
  step_inside from to inside step = (is.reached to).1 (leads_more ((is.reached from).0 inside) step)

  way_back : (from : List ℕ) (list : List (List ℕ)) (to : List ℕ) → Contains members to → IsWay new from list to → IsWay old from list to × Contains members from
  way_back from [] to inside same = let P : List ℕ → Type 0 = λ x. Contains members x in (same, subst P (sym same) inside)
  way_back from (next ∷ later) to inside way =
      let rest = way_back next later to inside way.1 in
      let step = step_back from next rest.1 way.0 in
      ((step, rest.0), step_inside next from rest.1 (inr (direct_gives old from next ordered_old step)))

  way_on : (from : List ℕ) (list : List (List ℕ)) (to : List ℕ) → Contains members to → IsWay old from list to → IsWay new from list to × Contains members from
  way_on from [] to inside same = let P : List ℕ → Type 0 = λ x. Contains members x in (same, subst P (sym same) inside)
  way_on from (next ∷ later) to inside way =
      let rest = way_on next later to inside way.1 in
      ((step_on from next rest.1 way.0, rest.0), step_inside next from rest.1 (inr (direct_gives old from next ordered_old way.0)))

  catalogued_back : (id : List ℕ) → Contains members id → IsCatalogued new id → IsCatalogued old id
  catalogued_back id inside listed =
      listed_record old.sysmods id (sym (ap is_some (same_record id inside)) ∙ record_listed new.sysmods id listed)

  catalogued_on : (id : List ℕ) → Contains members id → IsCatalogued old id → IsCatalogued new id
  catalogued_on id inside listed =
      listed_record new.sysmods id (ap is_some (same_record id inside) ∙ record_listed old.sysmods id listed)

  gives_back : (y x : List ℕ) → Contains members x → Gives new y x → Gives old y x
  gives_back y x inside given =
      let back = way_back y given.way x inside given.leads in
      record { catalogued = catalogued_back y back.1 given.catalogued; way = given.way; leads = back.0 }

  gives_on : (y x : List ℕ) → Contains members x → Gives old y x → Gives new y x
  gives_on y x inside given =
      let on = way_on y given.way x inside given.leads in
      record { catalogued = catalogued_on y on.1 given.catalogued; way = given.way; leads = on.0 }

  steps_back : (x z : List ℕ) → Contains members x → StepsTo new x z → StepsTo old x z
  steps_back x z inside step = let P : List (List ℕ) → Type 0 = λ l. Contains l z in elim step [
    | inl needs ↦ inl (subst P (same_needs x inside) needs)
    | inr given ↦ inr (gives_back z x inside given)
  ]

  steps_on : (x z : List ℕ) → Contains members x → StepsTo old x z → StepsTo new x z
  steps_on x z inside step = let P : List (List ℕ) → Type 0 = λ l. Contains l z in elim step [
    | inl needs ↦ inl (subst P (sym (same_needs x inside)) needs)
    | inr given ↦ inr (gives_on z x inside given)
  ]

  begun : Contains members start
  begun = (is.reached start).1 (leads_itself (StepsTo old) start)

  reached_back : (id : List ℕ) → Leads (StepsTo new) start id → Contains members id
  reached_back id leads = leads_closed (λ x. Contains members x) (λ x z inside step. step_inside x z inside (steps_back x z inside step)) begun leads

  reached_on : (id : List ℕ) → Leads (StepsTo old) start id → Leads (StepsTo new) start id
  reached_on id leads =
      (leads_closed (λ x. Leads (StepsTo new) start x × Contains members x)
      (λ x z here step. (leads_more here.0 (steps_on x z here.1 step), step_inside x z here.1 step))
      (leads_itself (StepsTo new) start, begun) leads).0

  same_givers : (id : List ℕ) → Contains members id → givers_of old id ≡ givers_of new id
  same_givers id inside =
      ascending_same (givers_of old id) (givers_of new id) (givers_ascend old id ordered_old.sysmods) (givers_ascend new id ordered_new.sysmods)
      (λ y listed. (giver_is new id y).1 (gives_on y id inside ((giver_is old id y).0 listed)))
      (λ y listed. (giver_is old id y).1 (gives_back y id inside ((giver_is new id y).0 listed)))

  same_node : (id : List ℕ) → Contains members id → node_of old id ≡ node_of new id
  unfolding node_with
  same_node id inside =
      ap (λ found. node_with id found (always_needs old id) (givers_of old id)) (sym (same_record id inside))
      ∙ ap (λ needs. node_with id (record_of new id) needs (givers_of old id)) (sym (always_same id inside))
      ∙ ap (λ givers. node_with id (record_of new id) (always_needs new id) givers) (same_givers id inside)

  pub frame_stays : IsFrame new start frame
  frame_stays = record {
    reached = λ id. (λ inside. reached_on id ((is.reached id).0 inside), reached_back id);
    says = is.says ∙ map_same (node_of old) (node_of new) members same_node;
    supersedes = λ p q below within. (
      λ linked. step_on (id_at members p) (id_at members q) (at_inside members q within) ((is.supersedes p q below within).0 linked),
      λ step. (is.supersedes p q below within).1 (step_back (id_at members p) (id_at members q) (at_inside members q within) step),
    );
  }

pub frames_stay : FramesStay
frames_stay ids old new start frame ordered_old ordered_new agree apart is = frame_stays ids old new start frame ordered_old ordered_new agree apart is

-- a frame that shares no id has none of them
pub apart_unless : (ids : List (List ℕ)) (frame : FrameLists) (b : Bool) → b ≡ shares ids frame → OnFalse b (AreApart (frames.ids_in frame.nodes) ids)
apart_unless ids frame true is = tt
apart_unless ids frame false is = λ id inside touched.
    let image = map_from (λ (node : FrameNode). node.id) frame.nodes id inside in
    let P : List ℕ → Type 0 = λ x. Contains ids x in
    let here : list_any (same_id image.from.id) ids ≡ true = any_at (same_id image.from.id) ids image.from.id (subst P (sym image.is) touched) (itself image.from.id) in
    let on : shares ids frame ≡ true = any_at (λ (node : FrameNode). list_any (same_id node.id) ids) frame.nodes image.from image.member here in
    cc

-- What a zone and the catalogue say of members, one member after the other, and that they are the nodes of a survey.
use Rattle.std.proofs.Common.{◌≡◌, ◌∙◌, ℕ, ◌+◌, ◌<◌, Bool, List, [], ◌∷◌, ◌++◌, length, map, is_some, Option, Some, None, refl, sym, ap, append_assoc, get_or, subst, take, arith}
use Rattle.std.specs.List.{Contains, flat_map, list_any}
use Rattle.std.proofs.lemmas.List.{get_or-map, get_or_append_left, get_or_push, length-map, map-append, take_more}
use Rattle.std.proofs.lemmas.List.Concat.{flat_map-append}
use Rattle.std.proofs.lemmas.List.Elements.{Contains-append_left, Contains-append_right}
use Rattle.zone_lists.specs.Installed.{is_installed}
use Rattle.zone_lists.specs.declared.zones.ZoneRow.{ZoneRow}
use Rattle.catalogue.specs.Content.{Content, ids_of, record_of}
use Rattle.catalogue.specs.Ids.{Ascend}
use Rattle.catalogue.specs.declared.sysmod.Sysmod.{Sysmod}
use Rattle.catalogue.proofs.IdFacts.{in_order_has}
use Rattle.supersede.specs.Giving.{fmids_of, sup_of}
use Rattle.requisites.specs.Nodes.{mark_of, row}
use Rattle.requisites.specs.declared.nodes.Nodes.{Nodes}
use Rattle.verdicts.specs.Indices.{id_at, AreIndicesOf, MarksAre, RowsAre}
use Rattle.listings.specs.SeenIndices.{AreSeen, AreThere, IsSupSeen, SeenAs}
use Rattle.listings.specs.MemberRows.{AreRowsOf, AreRowsWithin, members_of, sight_at}
use Rattle.listings.specs.Sights.{IsBare, IsSeen, Sight, all_needs, needs_seen, sight_of, unseen}
use Rattle.listings.specs.ZoneNodes.{IsSurvey}
use Rattle.verdicts.proofs.IndexFacts.{length-push, marks_more, marks_none, rows_more, rows_none}
use Rattle.listings.proofs.MadeCutFacts.{made_cut}
use Rattle.listings.proofs.WayFacts.{listed_record}

-- ---- one member more

module _ (before : List Sight) (sight : Sight) where
  -- what was read of the earlier members stays, and that of the next comes after it
  stays : (p : ℕ) → p < length before → sight_at before p ≡ sight_at (before ++ sight ∷ []) p
  stays p below = sym (get_or_append_left before (sight ∷ []) unseen p below)

  comes : sight ≡ sight_at (before ++ sight ∷ []) (length before)
  comes = sym (get_or_push before sight unseen (length before) refl)

  rows_on : (Q : Sight → List ℕ → Type 0) (old new : List (List ℕ)) (own : List ℕ) → RowsAre (λ p l. Q (sight_at before p) l) (length before) old → Q sight own → new ≡ old ++ own ∷ []
      → RowsAre (λ p l. Q (sight_at (before ++ sight ∷ []) p) l) (length (before ++ sight ∷ [])) new
  rows_on Q old new own are is now =
      let R : ℕ → Type 0 = λ n. RowsAre (λ p l. Q (sight_at (before ++ sight ∷ []) p) l) n new in
      let S : Sight → Type 0 = λ s. Q s own in
      subst R (sym (length-push before sight))
      (rows_more (λ p l. Q (sight_at (before ++ sight ∷ []) p) l) (length before) old new own
      (record { len = are.len; each = λ p below. (let T : Sight → Type 0 = λ s. Q s (row old p) in subst T (stays p below) (are.each p below)) })
      (subst S comes is) now)

  marks_on : (Q : Sight → Bool → Type 0) (old new : List Bool) (own : Bool) → MarksAre (λ p m. Q (sight_at before p) m) (length before) old → Q sight own → new ≡ old ++ own ∷ []
      → MarksAre (λ p m. Q (sight_at (before ++ sight ∷ []) p) m) (length (before ++ sight ∷ [])) new
  marks_on Q old new own are is now =
      let R : ℕ → Type 0 = λ n. MarksAre (λ p m. Q (sight_at (before ++ sight ∷ []) p) m) n new in
      let S : Sight → Type 0 = λ s. Q s own in
      subst R (sym (length-push before sight))
      (marks_more (λ p m. Q (sight_at (before ++ sight ∷ []) p) m) (length before) old new own
      (record { len = are.len; each = λ p below. (let T : Sight → Type 0 = λ s. Q s (mark_of old p) in subst T (stays p below) (are.each p below)) })
      (subst S comes is) now)

pub row_pushed : (rows : List ZoneRow) (members : List (List ℕ)) (before : List Sight) (sight : Sight) (old_marks new_marks : List Bool) (old_needs new_needs old_sup new_sup : List (List ℕ))
    (mark : Bool) (needs sup : List ℕ)
    → AreRowsOf rows members before old_marks old_needs old_sup
    → mark ≡ list_any (λ fmid. is_installed rows fmid) sight.fmids → new_marks ≡ old_marks ++ mark ∷ []
    → AreIndicesOf members (needs_seen rows sight) needs → new_needs ≡ old_needs ++ needs ∷ []
    → AreIndicesOf members sight.superseded sup → new_sup ≡ old_sup ++ sup ∷ []
    → AreRowsOf rows members (before ++ sight ∷ []) new_marks new_needs new_sup
row_pushed rows members before sight old_marks new_marks old_needs new_needs old_sup new_sup mark needs sup are mark_is marks_now needs_are needs_now sup_are sup_now = record {
  candidates_are = marks_on before sight (λ s m. m ≡ list_any (λ fmid. is_installed rows fmid) s.fmids) old_marks new_marks mark are.candidates_are mark_is marks_now;
  needs_are = rows_on before sight (λ s l. AreIndicesOf members (needs_seen rows s) l) old_needs new_needs needs are.needs_are needs_are needs_now;
  supersedes_are = rows_on before sight (λ s l. AreIndicesOf members s.superseded l) old_sup new_sup sup are.supersedes_are sup_are sup_now;
}

-- of no member there are none
pub no_rows : (rows : List ZoneRow) (members : List (List ℕ)) (candidates : List Bool) (needs supersedes : List (List ℕ)) → candidates ≡ [] → needs ≡ [] → supersedes ≡ []
    → AreRowsOf rows members [] candidates needs supersedes
no_rows rows members candidates needs supersedes no_marks no_needs none = record {
  candidates_are = marks_none (λ p mark. mark ≡ list_any (λ fmid. is_installed rows fmid) (sight_at [] p).fmids) candidates no_marks;
  needs_are = rows_none (λ p indices. AreIndicesOf members (needs_seen rows (sight_at [] p)) indices) needs no_needs;
  supersedes_are = rows_none (λ p indices. AreIndicesOf members (sight_at [] p).superseded indices) supersedes none;
}

-- ---- all members

pub rows_within : (rows : List ZoneRow) (members : List (List ℕ)) (sights : List Sight) (candidates : List Bool) (needs supersedes : List (List ℕ)) → length sights ≡ length members
    → AreRowsOf rows members sights candidates needs supersedes → AreRowsWithin members candidates needs
rows_within rows members sights candidates needs supersedes as_many are =
    let R : ℕ → Type 0 = λ n. RowsAre (λ p indices. (q : ℕ) → Contains indices q → q < length members) n needs in
    record {
      len = are.candidates_are.len ∙ as_many;
      needs_are = subst R as_many (record { len = are.needs_are.len; each = λ p below. (are.needs_are.each p below).within });
    }

module _ (content : Content) (rows : List ZoneRow) (members : List (List ℕ)) (nodes : Nodes) (is : members ≡ members_of content)
    (are : AreRowsOf rows members (map (sight_of content) members) nodes.candidates.items nodes.needs nodes.supersedes) where
  as_many : length (map (sight_of content) members) ≡ length members
  as_many = length-map members (sight_of content)

  named : (id : List ℕ) → Contains (ids_of content ++ flat_map all_needs (map (sight_of content) (ids_of content))) id → Contains members id
  named id inside =
      let P : List (List ℕ) → Type 0 = λ l. Contains l id in
      subst P (sym is) ((in_order_has (ids_of content ++ flat_map all_needs (map (sight_of content) (ids_of content))) id).1 inside)

  -- what isn't catalogued has no record
  bare : (id : List ℕ) → (Contains (ids_of content) id → ⊥) → IsBare (sight_of content id)
  bare id outside = go (record_of content id) refl where
    go : (o : Option Sysmod) → record_of content id ≡ o → IsBare (sight_of content id)
    go None e = record { fmids = ap fmids_of e; superseded = ap sup_of e }
    go (Some sysmod) e = absurd (outside (listed_record content.sysmods id (ap is_some e)))

  seen_so : (id : List ℕ) → IsSeen (sight_of content) (ids_of content) id (sight_of content id)
  seen_so id = record { listed = λ inside. refl; unlisted = bare id }

  -- what was read of a member is what the content says of it
  sight_there : (p : ℕ) → p < length members → sight_at (map (sight_of content) members) p ≡ sight_of content (id_at members p)
  sight_there p below = get_or-map (sight_of content) members p [] unseen below

  seen_at : (Q : Sight → Type 0) (p : ℕ) → p < length members → Q (sight_at (map (sight_of content) members) p) → SeenAs (sight_of content) (ids_of content) (id_at members p) Q
  seen_at Q p below so = record { sight = sight_of content (id_at members p); seen = seen_so (id_at members p); so = subst Q (sight_there p below) so }

  at : (p : ℕ) → p < length members → p < length (map (sight_of content) members)
  at p below = omega (arith, below, as_many)

  seen : AreSeen rows (sight_of content) (ids_of content) members (length members) nodes.candidates.items nodes.needs
  seen = record {
    candidates_are = record {
      len = are.candidates_are.len ∙ as_many;
      each = λ p below. seen_at (λ s. mark_of nodes.candidates.items p ≡ list_any (λ fmid. is_installed rows fmid) s.fmids) p below (are.candidates_are.each p (at p below));
    };
    needs_are = record {
      len = are.needs_are.len ∙ as_many;
      each = λ p below. seen_at (λ s. AreIndicesOf members (needs_seen rows s) (row nodes.needs p)) p below (are.needs_are.each p (at p below));
    };
  }

  sup_seen : IsSupSeen (sight_of content) (ids_of content) members (length members) nodes.supersedes
  sup_seen = record {
    len = are.supersedes_are.len ∙ as_many;
    each = λ p below. seen_at (λ s. AreIndicesOf members s.superseded (row nodes.supersedes p)) p below (are.supersedes_are.each p (at p below));
  }

  pub survey_made : Ascend members → AreThere rows members nodes.supersedes nodes.there.items → IsSurvey content rows (record { members = members; nodes = nodes })
  survey_made ascend there = record {
    cut = made_cut content rows members nodes ascend
        (λ id inside. named id (Contains-append_left (ids_of content) (flat_map all_needs (map (sight_of content) (ids_of content))) id inside))
        (λ id inside. named id (Contains-append_right (ids_of content) (flat_map all_needs (map (sight_of content) (ids_of content))) id inside))
        seen sup_seen there;
    whole = λ id inside. named id (Contains-append_left (ids_of content) (flat_map all_needs (map (sight_of content) (ids_of content))) id inside);
  }

-- ---- run by run

-- the needs of one run more
pub needs_on : (f : List ℕ → Sight) (ids done run old new : List (List ℕ)) (read : List Sight) → old ≡ ids ++ flat_map all_needs (map f done) → read ≡ map f run → new ≡ old ++ flat_map all_needs read
    → new ≡ ids ++ flat_map all_needs (map f (done ++ run))
needs_on f ids done run old new read was is now =
    now
    ∙ ap (λ l. l ++ flat_map all_needs read) was
    ∙ append_assoc ids (flat_map all_needs (map f done)) (flat_map all_needs read)
    ∙ ap (λ l. ids ++ l) (sym (flat_map-append all_needs (map f done) read))
    ∙ ap (λ l. ids ++ flat_map all_needs (map f done ++ l)) is
    ∙ ap (λ l. ids ++ flat_map all_needs l) (sym (map-append f done run))

-- the rows of one entry more
pub rows_more_of : (rows : List ZoneRow) (members : List (List ℕ)) (before entries : List Sight) (i : ℕ) (entry : Sight) (candidates : List Bool) (needs supersedes : List (List ℕ)) → i < length entries
    → entry ≡ get_or entries i entry → AreRowsOf rows members ((before ++ take i entries) ++ entry ∷ []) candidates needs supersedes
    → AreRowsOf rows members (before ++ take (i + 1) entries) candidates needs supersedes
rows_more_of rows members before entries i entry candidates needs supersedes below at are =
    let P : List Sight → Type 0 = λ l. AreRowsOf rows members l candidates needs supersedes in
    let more : take i entries ++ entry ∷ [] ≡ take (i + 1) entries = sym (take_more entries i entry below ∙ ap (λ (s : Sight). take i entries ++ s ∷ []) (sym at)) in
    subst P (append_assoc before (take i entries) (entry ∷ []) ∙ ap (λ (l : List Sight). before ++ l) more) are

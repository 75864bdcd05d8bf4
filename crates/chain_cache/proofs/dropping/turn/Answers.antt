use Rattle.std.proofs.Common.{◌≡◌, ◌∙◌, ◌∷◌, ◌++◌, [], ℕ, List, Bool, IfSome, Option, None, Some, ap, not, option_map, subst, sym}
use Rattle.std.proofs.lemmas.Cmp.{nat_list_eq_equiv}
use Rattle.catalogue.specs.Ids.{same_id}
use Rattle.lru.specs.LruCache.{last_entry}
use Rattle.chains.specs.Frames.{FrameLists, shares}
use Rattle.chain_cache.proofs.EntryFacts.{is_last, last_put_first, last_taken}
use Rattle.chain_cache.proofs.dropping.turn.Goals as goal

-- what is said of the last entry, of the one that stands last
said : (entries : List (List ℕ × FrameLists)) (ids : List (List ℕ)) (others : List (List ℕ × FrameLists)) (last : List ℕ × FrameLists) (b : Bool) → entries ≡ others ++ last ∷ []
    → IfSome (last_entry entries) (λ last. b ≡ shares ids last.1) → b ≡ shares ids last.1
said entries ids others last b are is =
    let P : Option (List ℕ × FrameLists) → Type 0 = λ o. IfSome o (λ last. b ≡ shares ids last.1) in
    subst P (is_last same_id entries others last are) is

pub returns-then-is_last_touched-clause-entries : goal.returns-then-is_last_touched-clause-entries
returns-then-is_last_touched-clause-entries c = λ others last are.
    let before = c.args.frames.now.entries in
    let ids = c.args.ids.now in
    let stays : List ℕ × FrameLists → Bool = λ entry. not (shares ids entry.1) in
    ap (λ cache. cache.entries) c.pop_lru.ensures.entries
    ∙ last_taken same_id stays before others last are (ap not (sym (said before ids others last c.is_last_touched.result are c.is_last_touched.ensures) ∙ c.if-is_last_touched.true))

pub returns-in-Some-clause-entries : goal.returns-in-Some-clause-entries
returns-in-Some-clause-entries c = λ others last are.
    let before = c.args.frames.now.entries in
    let ids = c.args.ids.now in
    let stays : List ℕ × FrameLists → Bool = λ entry. not (shares ids entry.1) in
    let same : Some c.in-Some.id ≡ Some last.0 = c.in-Some.ensures.last ∙ ap (option_map (λ (e : List ℕ × FrameLists). e.0)) (is_last same_id before others last are) in
    let key : c.in-Some.id ≡ last.0 = cc same in
    ap (λ cache. cache.entries) c.promote.ensures.entries
    ∙ last_put_first same_id nat_list_eq_equiv stays before others last c.in-Some.id are
    (ap not (sym (said before ids others last c.is_last_touched.result are c.is_last_touched.ensures) ∙ c.if-is_last_touched.false))
    key c.in-Some.ensures.distinct

pub returns-in_default-clause-entries : goal.returns-in_default-clause-entries
returns-in_default-clause-entries c = λ others last are.
    let before = c.args.frames.now.entries in
    let none : None ≡ Some last.0 = c.in_default.ensures.last ∙ ap (option_map (λ (e : List ℕ × FrameLists). e.0)) (is_last same_id before others last are) in
    absurd (cc none)

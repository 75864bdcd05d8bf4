-- The ids that a path names are what the parameters of its route take.
use Rattle.std.proofs.Common.{◌≡◌, ◌⊎◌, inl, inr, ℕ, ◌+◌, ◌≤◌, true, not, List, [], ◌∷◌, ◌++◌, length, take, drop, codes, Some, None, ◌==◌, IsAscii, IsUtf8, refl, sym, ap, ap₂, ◌∙◌, subst, arith, append_assoc, length-append, length-take-le, take_all, take-append-drop, drop-drop}
use Rattle.std.proofs.lemmas.List.Sums.{prefix_len-le-length}
use Rattle.std.proofs.lemmas.Str.{IsAscii-drop, IsAscii-take, IsUtf8-from_ascii}
use Rattle.std.specs.List.{AllByRecursion, list_all}
use Rattle.std.specs.Option.{option_and_then}
use Rattle.matchit.proofs.OnLiterals.{matchit_on_literals}
use Rattle.matchit.specs.Params.{AllText, named, part_of, walk, wild_from, wild_stop}
use Rattle.matchit.specs.Router.{RouteOf}
use Rattle.matchit.specs.Rows.{param_token}
use Rattle.matchit.specs.Seek.{first}
use Rattle.matchit.specs.declared.params.Params.{Params}
use Rattle.percent_encoding.proofs.OnLiterals.{percent_encoding_on_literals}
use Rattle.lemmas.proofs.ListFacts.{all_in}
use Rattle.lemmas.proofs.TestFacts.{low_itself}
use Rattle.requests.specs.Places.{id_taken, taken}
use Rattle.requests.specs.Request.{id_in, slash, sysmod_in, zone_in}
use Rattle.requests.specs.Routes.{routes, table, with_route}
use Rattle.requests.specs.Text.{after, before, before_len}
use Rattle.requests.specs.declared.resource.Resource.{Resource}
use Rattle.requests.proofs.MatchFacts.{Matches, first_found}
use Rattle.requests.proofs.RequestFacts.{all_ascii}
use Rattle.requests.proofs.TakenFacts.{GoesOn, Pairs, after_literal, between, front, is_byte, last_param, literal_path, no_slash, part_after, taken_first, wild_after, zone_walk}

-- what a route takes of a path
abbrev pub taken_by : RouteOf Resource → List ℕ → Pairs
taken_by route path = walk route.pattern route.text path route.names 0 0

-- what it takes are the ids that the path names
pub record Says (route : RouteOf Resource) (path : List ℕ) : Type 0 where
  pub zone : option_and_then id_in (named (codes "zone") (taken_by route path)) ≡ zone_in path
  pub sysmod : option_and_then id_in (named (codes "sysmod") (taken_by route path)) ≡ sysmod_in path
  pub text : AllText (taken_by route path)

abbrev Row : Type 0
Row = List ℕ × RouteOf Resource

-- a row without a parameter
record IsPlain (row : Row) : Type 0 where
  literal : list_all is_byte row.0 ≡ true
  names : row.1.names ≡ []
  zone : zone_in row.0 ≡ None
  sysmod : sysmod_in row.0 ≡ None

plain_says : (row : Row) (path : List ℕ) → IsPlain row → Matches row.0 path → Says row.1 path
plain_says row path it m =
    let is : path ≡ row.0 = literal_path row.0 path it.literal m in
    let none : taken_by row.1 path ≡ [] = ap (λ names. walk row.1.pattern row.1.text path names 0 0) it.names in
    record {
      zone = ap (λ pairs. option_and_then id_in (named (codes "zone") pairs)) none ∙ sym (ap zone_in is ∙ it.zone);
      sysmod = ap (λ pairs. option_and_then id_in (named (codes "sysmod") pairs)) none ∙ sym (ap sysmod_in is ∙ it.sysmod);
      text = subst AllText (sym none) tt;
    }

zone_ascii : IsAscii (codes "zone")
zone_ascii = all_ascii (codes "zone") refl

before_ascii : (tail : List ℕ) → IsAscii tail → IsUtf8 (before slash tail)
before_ascii tail ascii = IsUtf8-from_ascii (before slash tail) (IsAscii-take tail (before_len slash tail) ascii)

zone_part : (tail : List ℕ) → zone_in (front ++ tail) ≡ id_in (before slash tail)
zone_part tail = refl

sysmod_part : (tail : List ℕ) → sysmod_in (front ++ tail) ≡ id_in (before slash (after slash (after slash tail)))
sysmod_part tail = refl

-- a row whose one parameter is a zone: what follows that is no SYSMOD
abbrev NamesNone : List ℕ → Type 0
NamesNone rest = id_in (before slash (after slash (drop 1 rest))) ≡ None

record TakesZone (row : Row) : Type 0 where
  rest : List ℕ
  pattern : row.0 ≡ front ++ param_token ∷ rest
  same : row.1.pattern ≡ row.0
  name : part_of row.1.text 8 12 ≡ codes "zone"
  names : row.1.names ≡ (8, 12) ∷ []
  literal : list_all is_byte rest ≡ true
  goes : GoesOn rest
  none : NamesNone rest

after_before : (rest tail : List ℕ) → drop (before_len slash tail) tail ≡ rest → after slash tail ≡ drop 1 rest
after_before rest tail is = sym (drop-drop 1 (before_len slash tail) tail) ∙ ap (drop 1) is

zone_says : (row : Row) (path : List ℕ) → IsAscii path → TakesZone row → Matches row.0 path → Says row.1 path
zone_says row path ascii it m =
    let M : List ℕ → Type 0 = λ t. Matches t path in
    let took = taken_first it.rest path ascii it.goes (subst M it.pattern m) in
    let left = literal_path it.rest (drop (before_len slash took.tail) took.tail) it.literal took.left in
    let own : IsAscii took.tail = subst IsAscii (ap (drop 7) took.is) (IsAscii-drop path 7 ascii) in
    let pairs : taken_by row.1 path ≡ (codes "zone", before slash took.tail) ∷ [] =
    ap (λ p. walk p row.1.text path row.1.names 0 0) (it.same ∙ it.pattern)
    ∙ ap (λ names. walk (front ++ param_token ∷ it.rest) row.1.text path names 0 0) it.names
    ∙ zone_walk it.rest row.1.text path [] took it.name in
    record {
      zone = ap (λ l. option_and_then id_in (named (codes "zone") l)) pairs ∙ sym (ap zone_in took.is ∙ zone_part took.tail);
      sysmod = ap (λ l. option_and_then id_in (named (codes "sysmod") l)) pairs
          ∙ sym (ap sysmod_in took.is ∙ sysmod_part took.tail ∙ ap (λ l. id_in (before slash (after slash l))) (after_before it.rest took.tail left) ∙ it.none);
      text = subst AllText (sym pairs) (IsUtf8-from_ascii (codes "zone") zone_ascii, before_ascii took.tail own, tt);
    }

-- a row whose parameters are a zone and a SYSMOD
record TakesBoth (row : Row) : Type 0 where
  pattern : row.0 ≡ front ++ param_token ∷ (between ++ param_token ∷ [])
  same : row.1.pattern ≡ row.0
  zone_name : part_of row.1.text 8 12 ≡ codes "zone"
  sysmod_name : part_of row.1.text 22 28 ≡ codes "sysmod"
  names : row.1.names ≡ (8, 12) ∷ (22, 28) ∷ []

-- the last parameter takes all that is left
sysmod_walk : (text path before_all sysmod : List ℕ) (at : ℕ) → path ≡ before_all ++ sysmod → at + 8 ≡ length before_all → part_of text 22 28 ≡ codes "sysmod"
    → walk (front ++ param_token ∷ (between ++ param_token ∷ [])) text path ((22, 28) ∷ []) 8 at ≡ (codes "sysmod", sysmod) ∷ []
sysmod_walk text path before_all sysmod at is count name =
    let pattern : List ℕ = front ++ param_token ∷ (between ++ param_token ∷ []) in
    let all : length path ≡ length before_all + length sysmod = ap length is ∙ length-append before_all sysmod in
    let from : wild_from (between ++ param_token ∷ []) (length path) 8 at ≡ (16, at + 8) = wild_after between [] (length path) 8 at refl (omega (arith, all, count)) in
    let here : ℕ × ℕ → Pairs = λ w. (part_of text 22 28, part_of path w.1 (wild_stop pattern w.0 path w.1)) ∷ [] in
    let both : List ℕ → List ℕ → Pairs = λ n p. (n, p) ∷ [] in
    let whole : take (length sysmod) sysmod ≡ sysmod = take_all (length sysmod) sysmod (low_itself (length sysmod)) in
    let part : part_of path (at + 8) (length path) ≡ sysmod =
    ap (λ p. part_of p (at + 8) (length path)) is ∙ part_after before_all sysmod (at + 8) (length path) (length sysmod) count all (low_itself (length sysmod)) ∙ whole in
    ap here from ∙ ap₂ both name part

both_says : (row : Row) (path : List ℕ) → IsAscii path → TakesBoth row → Matches row.0 path → Says row.1 path
both_says row path ascii it m =
    let M : List ℕ → Type 0 = λ t. Matches t path in
    let took = taken_first (between ++ param_token ∷ []) path ascii refl (subst M it.pattern m) in
    let n : ℕ = before_len slash took.tail in
    let next = after_literal between (param_token ∷ []) (drop n took.tail) refl took.left in
    let own : IsAscii took.tail = subst IsAscii (ap (drop 7) took.is) (IsAscii-drop path 7 ascii) in
    let last : IsAscii next.rest = subst IsAscii (ap (drop 8) next.is) (IsAscii-drop (drop n took.tail) 8 (IsAscii-drop took.tail n own)) in
    let whole : before slash next.rest ≡ next.rest = to_end next.rest last next.matches in
    let parts : took.tail ≡ (take n took.tail ++ between) ++ next.rest =
    sym (take-append-drop n took.tail) ∙ ap (λ l. take n took.tail ++ l) next.is ∙ sym (append_assoc (take n took.tail) between next.rest) in
    let fits : n ≤ length took.tail = prefix_len-le-length (λ b. not (b == slash)) took.tail in
    let long : length (take n took.tail) ≡ n = length-take-le n took.tail fits in
    let count : length (take n took.tail ++ between) ≡ length (take n took.tail) + 8 = length-append (take n took.tail) between in
    let pairs : taken_by row.1 path ≡ (codes "zone", before slash took.tail) ∷ (codes "sysmod", next.rest) ∷ [] =
    ap (λ p. walk p row.1.text path row.1.names 0 0) (it.same ∙ it.pattern)
    ∙ ap (λ names. walk (front ++ param_token ∷ (between ++ param_token ∷ [])) row.1.text path names 0 0) it.names
    ∙ zone_walk (between ++ param_token ∷ []) row.1.text path ((22, 28) ∷ []) took it.zone_name
    ∙ ap (λ l. (codes "zone", before slash took.tail) ∷ l)
    (sysmod_walk row.1.text path (front ++ (take n took.tail ++ between)) next.rest (7 + n) (took.is ∙ ap (λ l. front ++ l) parts)
    (front_count (take n took.tail ++ between) n (omega (arith, count, long))) it.sysmod_name) in
    record {
      zone = ap (λ l. option_and_then id_in (named (codes "zone") l)) pairs ∙ sym (ap zone_in took.is ∙ zone_part took.tail);
      sysmod = ap (λ l. option_and_then id_in (named (codes "sysmod") l)) pairs
          ∙ sym (ap sysmod_in took.is ∙ sysmod_part took.tail ∙ ap (λ l. id_in (before slash (after slash l))) (after_before (between ++ next.rest) took.tail next.is) ∙ ap id_in whole);
      text = subst AllText (sym pairs) (
        IsUtf8-from_ascii (codes "zone") zone_ascii,
        before_ascii took.tail own,
        (IsUtf8-from_ascii (codes "sysmod") (all_ascii (codes "sysmod") refl), IsUtf8-from_ascii next.rest last, tt),
      );
    }
  where
    to_end : (text : List ℕ) → IsAscii text → Matches (param_token ∷ []) text → before slash text ≡ text
    to_end [] ascii m = absurd m
    to_end (b ∷ text) ascii m = take_all (before_len slash (b ∷ text)) (b ∷ text) (at_end (no_slash (b ∷ text) (last_param b text ascii m)))
      where
        at_end : before_len slash (b ∷ text) ≡ length (b ∷ text) → length (b ∷ text) ≤ before_len slash (b ∷ text)
        at_end e = omega (arith, e)

    front_count : (rest : List ℕ) (n : ℕ) → length rest ≡ n + 8 → (7 + n) + 8 ≡ length (front ++ rest)
    front_count rest n e = let all : length (front ++ rest) ≡ 7 + length rest = length-append front rest in omega (arith, e, all)

abbrev IsFine : Row → Type 0
IsFine row = IsPlain row ⊎ (TakesZone row ⊎ TakesBoth row)

row_says : (row : Row) (path : List ℕ) → IsAscii path → IsFine row → Matches row.0 path → Says row.1 path
row_says row path ascii (inl it) m = plain_says row path it m
row_says row path ascii (inr (inl it)) m = zone_says row path ascii it m
row_says row path ascii (inr (inr it)) m = both_says row path ascii it m

plain : (row : Row) → list_all is_byte row.0 ≡ true → row.1.names ≡ [] → zone_in row.0 ≡ None → sysmod_in row.0 ≡ None → IsFine row
plain row literal names zone sysmod = inl (record { literal = literal; names = names; zone = zone; sysmod = sysmod })

zone : (row : Row) (rest : List ℕ) → row.0 ≡ front ++ param_token ∷ rest → row.1.pattern ≡ row.0 → part_of row.1.text 8 12 ≡ codes "zone"
    → row.1.names ≡ (8, 12) ∷ [] → list_all is_byte rest ≡ true → GoesOn rest → NamesNone rest → IsFine row
zone row rest pattern same name names literal goes none =
    inr (inl (record { rest = rest; pattern = pattern; same = same; name = name; names = names; literal = literal; goes = goes; none = none }))

-- the rows of the router from one on, which stand in the order of their patterns
abbrev AreFine : ℕ → Type 0
AreFine n = AllByRecursion IsFine (drop n routes)

all_fine : AllByRecursion IsFine routes
unfolding routes table with_route matchit_on_literals percent_encoding_on_literals
all_fine =
    let zones : AreFine 17 = (plain _ refl refl refl refl, tt) in
    let one_zone : AreFine 16 = (zone _ [] refl refl refl refl refl tt refl, zones) in
    let missingfix : AreFine 15 = (zone _ _ refl refl refl refl refl refl refl, one_zone) in
    let missing_plan : AreFine 14 = (zone _ _ refl refl refl refl refl refl refl, missingfix) in
    let missing_plan_json : AreFine 13 = (zone _ _ refl refl refl refl refl refl refl, missing_plan) in
    let missingfix_json : AreFine 12 = (zone _ _ refl refl refl refl refl refl refl, missing_plan_json) in
    let errsysmods : AreFine 11 = (zone _ _ refl refl refl refl refl refl refl, missingfix_json) in
    let err_plan : AreFine 10 = (zone _ _ refl refl refl refl refl refl refl, errsysmods) in
    let err_plan_json : AreFine 9 = (zone _ _ refl refl refl refl refl refl refl, err_plan) in
    let errsysmods_json : AreFine 8 = (zone _ _ refl refl refl refl refl refl refl, err_plan_json) in
    let counts : AreFine 7 = (zone _ _ refl refl refl refl refl refl refl, errsysmods_json) in
    let chains : AreFine 6 = (inr (inr (record { pattern = refl; same = refl; zone_name = refl; sysmod_name = refl; names = refl })), counts) in
    let categories : AreFine 5 = (zone _ _ refl refl refl refl refl refl refl, chains) in
    let zones_json : AreFine 4 = (plain _ refl refl refl refl, categories) in
    let received : AreFine 3 = (plain _ refl refl refl refl, zones_json) in
    let publish : AreFine 2 = (plain _ refl refl refl refl, received) in
    let published : AreFine 1 = (plain _ refl refl refl refl, publish) in
    (plain _ refl refl refl refl, published)

-- what the parameters of the route of a path take are texts, and the ids that the path names
pub ids_taken : (path : List ℕ) (params : Params) (resource : Resource) → IsAscii path
    → first routes path ≡ Some (record { pattern = params.pattern.now; text = params.text.now; names = params.names.now; value = resource })
    → params.path.now ≡ path
    → AllText (taken params) × (id_taken (codes "zone") params ≡ zone_in path) × (id_taken (codes "sysmod") params ≡ sysmod_in path)
ids_taken path params resource ascii h is =
    let route : RouteOf Resource = record { pattern = params.pattern.now; text = params.text.now; names = params.names.now; value = resource } in
    let found = first_found routes path route h in
    let says = row_says (found.pattern, route) path ascii (all_in IsFine routes all_fine (found.pattern, route) found.inside) found.matches in
    let P : List ℕ → Type 0 = λ p.
    AllText (taken_by route p) × (option_and_then id_in (named (codes "zone") (taken_by route p)) ≡ zone_in path) × (option_and_then id_in (named (codes "sysmod") (taken_by route p)) ≡ sysmod_in path) in
    subst P (sym is) (says.text, says.zone, says.sysmod)

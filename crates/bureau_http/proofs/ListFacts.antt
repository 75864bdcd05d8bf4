-- How a list of connections is served.
use Rattle.std.proofs.Common.{◌≡◌, ◌⊎◌, ℕ, ◌+◌, ◌<◌, List, [], ◌∷◌, ◌++◌, length, map, take, drop, get_or, refl, sym, ap, ◌∙◌, subst, arith, append-nil}
use Rattle.std.proofs.lemmas.Grind.{flat_map-append}
use Rattle.std.proofs.lemmas.List.{drop-map, drop_more, length-map, length-take, map-append, take_more}
use Rattle.std.specs.List.{take-map}
use Rattle.bureau_store.specs.Tables.{AreInOrder, Tables}
use Rattle.bureau_store.specs.declared.caller.CallerRow.{CallerRow}
use Rattle.bureau.specs.Joint.{CallBy, IsRun}
use Rattle.bureau.specs.Kept.{TellNothing}
use Rattle.bureau_http.specs.Connection.{IsConnection, cut}
use Rattle.bureau_http.specs.Exchange.{Exchange, calls_of}
use Rattle.bureau_http.specs.List.{AreServed, AreServedInPart, AreSoFar, AreWhole, IsInHand, IsOneCut, IsOneServed, IsWhole, calls_in}
use Rattle.bureau_http.specs.Isolated.{joined}
use Rattle.bureau_http.proofs.IsolatedFacts.{Alike, Alone, IsKnown, calls_joined, calls_with_hand, isolated_so}
use Rattle.bureau_http.proofs.ServingFacts.{ActOnce, Join, one_run}

whole_on : (rows : List CallerRow) (cs ws : List (List ℕ)) (es : List (List Exchange)) (c w : List ℕ) (e : List Exchange) → AreWhole rows cs ws es
    → IsWhole rows c w e → AreWhole rows (cs ++ c ∷ []) (ws ++ w ∷ []) (es ++ e ∷ [])
whole_on rows [] [] [] c w e h k = (k, tt)
whole_on rows [] [] (x ∷ es) c w e h k = absurd h
whole_on rows [] (x ∷ ws) es c w e h k = absurd h
whole_on rows (b ∷ cs) [] es c w e h k = absurd h
whole_on rows (b ∷ cs) (x ∷ ws) [] c w e h k = absurd h
whole_on rows (b ∷ cs) (x ∷ ws) (y ∷ es) c w e h k = (h.0, whole_on rows cs ws es c w e h.1 k)

whole_len : (rows : List CallerRow) (cs ws : List (List ℕ)) (es : List (List Exchange)) → AreWhole rows cs ws es → length ws ≡ length cs
whole_len rows [] [] es h = refl
whole_len rows [] (x ∷ ws) es h = absurd h
whole_len rows (b ∷ cs) [] es h = absurd h
whole_len rows (b ∷ cs) (x ∷ ws) [] h = absurd h
whole_len rows (b ∷ cs) (x ∷ ws) (y ∷ es) h = let e = whole_len rows cs ws es h.1 in omega arith

calls_more : (es : List (List Exchange)) (e : List Exchange) → calls_in (es ++ e ∷ []) ≡ calls_in es ++ calls_of e
calls_more es e = flat_map-append calls_of es (e ∷ []) ∙ ap (λ l. calls_in es ++ l) (append-nil (calls_of e))

-- one connection more
pub so_more : (First Then Whole : Tables → List CallBy → Tables → Type 0) → Join First Then Whole → (this : Tables) (cs ws : List (List ℕ)) (so : AreSoFar First this cs ws) (bytes text : List ℕ)
    → IsOneServed Then so.now bytes text → AreSoFar Whole this (cs ++ bytes ∷ []) (ws ++ text ∷ [])
so_more First Then Whole join this cs ws so bytes text one = record {
  exchanges = so.exchanges ++ one.exchanges ∷ [];
  now = one.closing;
  run = subst (λ ts. Whole this ts one.closing) (sym (calls_more so.exchanges one.exchanges)) (join this so.now one.closing (calls_in so.exchanges) (calls_of one.exchanges) so.run one.run);
  callers = one.callers ∙ so.callers;
  whole = whole_on this.callers cs ws so.exchanges bytes text one.exchanges so.whole (subst (λ rows. IsWhole rows bytes text one.exchanges) so.callers one.whole);
}

map_more : {V : Type 0} (f : V → List ℕ) (cs : List V) (i : ℕ) (item : V) → i < length cs → item ≡ get_or cs i item
    → map f (take i cs) ++ f item ∷ [] ≡ map f (take (i + 1) cs)
map_more f cs i item low is =
    ap (λ v. map f (take i cs) ++ f v ∷ []) is ∙ sym (ap (map f) (take_more cs i item low) ∙ map-append f (take i cs) (get_or cs i item ∷ []))

pub one_more : {V : Type 0} (f : V → List ℕ) (First Then Whole : Tables → List CallBy → Tables → Type 0) → Join First Then Whole → (this : Tables) (cs : List V) (ws : List (List ℕ)) (i : ℕ) (item : V) (text : List ℕ)
    (so : AreSoFar First this (map f (take i cs)) ws) → i < length cs → item ≡ get_or cs i item → IsOneServed Then so.now (f item) text
    → AreSoFar Whole this (map f (take (i + 1) cs)) (ws ++ text ∷ [])
one_more f First Then Whole join this cs ws i item text so low is one =
    subst (λ l. AreSoFar Whole this l (ws ++ text ∷ [])) (map_more f cs i item low is)
    (so_more First Then Whole join this (map f (take i cs)) ws so (f item) text one)

pub as_cut : (Runs : Tables → List CallBy → Tables → Type 0) (this : Tables) (bytes text : List ℕ) → IsOneServed Runs this bytes text → IsOneCut Runs this bytes
as_cut Runs this bytes text one = record {
  exchanges = one.exchanges;
  closing = one.closing;
  run = one.run;
  callers = one.callers;
  answered = one.whole.answered;
  stop = one.whole.stop;
  connection = one.whole.connection;
}

-- such a run is a run of the tables
abbrev pub IsPlain : (Tables → List CallBy → Tables → Type 0) → Type 0
IsPlain Runs = (this next : Tables) (calls : List CallBy) → Runs this calls next → IsRun this calls next

-- all connections were served
pub all_served : (Runs : Tables → List CallBy → Tables → Type 0) → IsPlain Runs → ActOnce Runs → (this : Tables) (cs ws : List (List ℕ)) → Alone → Alike → IsKnown Runs this → AreSoFar Runs this cs ws → AreServed Runs this cs ws
all_served Runs plain once this cs ws alone alike known so = record {
  exchanges = so.exchanges;
  ran = one_run Runs once this so.now (calls_in so.exchanges) so.run so.callers;
  whole = so.whole;
  isolated = isolated_so this so.now (joined so.exchanges) alone alike
      (subst (λ ts. AreInOrder this ⊎ TellNothing ts) (sym (calls_joined so.exchanges)) (known (calls_in so.exchanges) so.now so.run))
      (subst (λ ts. IsRun this ts so.now) (sym (calls_joined so.exchanges)) (plain this so.now (calls_in so.exchanges) so.run));
}

-- the connection in hand was cut off
pub in_part : {V : Type 0} (f : V → List ℕ) (First Then Whole : Tables → List CallBy → Tables → Type 0) → Join First Then Whole → IsPlain Whole → ActOnce Whole → (this : Tables) (cs : List V) (ws : List (List ℕ)) (i : ℕ) (item : V)
    (so : AreSoFar First this (map f (take i cs)) ws) → i < length cs → item ≡ get_or cs i item → Alone → Alike → IsKnown Whole this → IsOneCut Then so.now (f item)
    → AreServedInPart Whole this (map f cs) ws
in_part f First Then Whole join plain once this cs ws i item so low is alone alike known one =
    let short = length-take i cs in
    let mapped = length-map (take i cs) f in
    let whole = whole_len this.callers (map f (take i cs)) ws so.exchanges so.whole in
    let count : length ws ≡ i = omega arith in
    let run = join this so.now one.closing (calls_in so.exchanges) (calls_of one.exchanges) so.run one.run in
    let rest : drop (length ws) (map f cs) ≡ f item ∷ map f (drop (i + 1) cs) =
    ap (λ n. drop n (map f cs)) count ∙ drop-map f i cs ∙ ap (map f) (drop_more cs i item low) ∙ ap (λ v. f v ∷ map f (drop (i + 1) cs)) (sym is) in
    let front : map f (take i cs) ≡ take (length ws) (map f cs) = sym (ap (λ n. take n (map f cs)) count ∙ take-map f i cs) in
    record {
      exchanges = so.exchanges;
      hand = one.exchanges;
      ran = one_run Whole once this one.closing (calls_in so.exchanges ++ calls_of one.exchanges) run (one.callers ∙ so.callers);
      whole = subst (λ l. AreWhole this.callers l ws so.exchanges) front so.whole;
      in_hand = subst (λ l. IsInHand this.callers l one.exchanges) (sym rest)
          (one.answered, (one.stop, subst (λ rows. IsConnection rows (f item) (map (λ exchange. exchange.asked) one.exchanges) one.stop) so.callers one.connection));
      isolated = isolated_so this one.closing (joined so.exchanges ++ one.exchanges) alone alike
          (subst (λ ts. AreInOrder this ⊎ TellNothing ts) (sym (calls_with_hand so.exchanges one.exchanges)) (known (calls_in so.exchanges ++ calls_of one.exchanges) one.closing run))
          (subst (λ ts. IsRun this ts one.closing) (sym (calls_with_hand so.exchanges one.exchanges)) (plain this one.closing (calls_in so.exchanges ++ calls_of one.exchanges) run));
    }

none_in_hand : (rows : List CallerRow) (all : List (List ℕ)) → IsInHand rows all []
none_in_hand rows [] = refl
none_in_hand rows (bytes ∷ all) = (tt, (cut, record { first = []; last = []; following = bytes; reads = refl; stops = refl; all = refl }))

-- nothing was served
pub nothing : (Runs : Tables → List CallBy → Tables → Type 0) → IsPlain Runs → ActOnce Runs → (this : Tables) (all : List (List ℕ)) → Alone → Alike → IsKnown Runs this → Runs this [] this → AreServedInPart Runs this all []
nothing Runs plain once this all alone alike known run = record {
  exchanges = [];
  hand = [];
  ran = one_run Runs once this this [] run refl;
  whole = tt;
  in_hand = none_in_hand this.callers all;
  isolated = isolated_so this this [] alone alike (known [] this run) (plain this this [] run);
}

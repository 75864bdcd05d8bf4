-- What goes out to the log.
use Rattle.std.proofs.Common.{◌≡◌, inl, inr, ◌∙◌, ap, sym, subst, refl, arith, ℕ, zero, suc, ◌+◌, ◌-◌, ◌<◌, true, false, List, [], ◌∷◌, ◌++◌, append_assoc, append-nil, take, drop, take-append-drop, Option, Some, None, slice_get}
use Rattle.std.proofs.KnownBytes.{Appends-nil, Appends-trans}
use Rattle.std.specs.Io.KnownBytes.{Appends, Keeps}
use Rattle.log_lines.specs.Lines.{lost_text}
use Rattle.socket_desk.specs.declared.lines.Lines.{Lines}
use Rattle.socket_desk.specs.declared.log.Log.{Log}
use Rattle.socket_desk.specs.Logged.{AreLines, AreLogged, AreSent, GoesOut, IsLogged, IsToldLost, counted, lines_in}

-- nothing more goes out
pub out_none : (a : Option (List ℕ)) (rest : List ℕ) → GoesOut a rest [] a rest
out_none a rest = ([], Appends-nil a, append-nil rest)

-- what goes out later
pub out_more : (a b c : Option (List ℕ)) (r s t x y : List ℕ) → GoesOut a r x b s → GoesOut b s y c t → GoesOut a r (x ++ y) c t
out_more a b c r s t x y p q = (
  p.0 ++ q.0,
  Appends-trans a b c p.0 q.0 p.1 q.1,
  sym (append_assoc r x y) ∙ ap (λ l. l ++ y) p.2 ∙ append_assoc p.0 s y ∙ ap (λ l. p.0 ++ l) q.2 ∙ sym (append_assoc p.0 q.0 t),
)

-- bytes that stay as they were
pub kept_nil : (a b : Option (List ℕ)) → Keeps a b → Appends a b []
kept_nil None b k = tt
kept_nil (Some x) None k = absurd k
kept_nil (Some x) (Some y) k = k ∙ sym (append-nil x)

pub nil_kept : (a b : Option (List ℕ)) → Appends a b [] → Keeps a b
nil_kept None b k = tt
nil_kept (Some x) None k = absurd k
nil_kept (Some x) (Some y) k = k ∙ append-nil x

pub kept_then : (a b c : Option (List ℕ)) (xs : List ℕ) → Keeps a b → Appends b c xs → Appends a c xs
kept_then None b c xs k p = tt
kept_then (Some x) None c xs k p = absurd k
kept_then (Some x) (Some y) None xs k p = absurd p
kept_then (Some x) (Some y) (Some z) xs k p = p ∙ ap (λ l. l ++ xs) k

-- a front of whole lines, and more of them
pub lines_more : (xs ys : List ℕ) → AreLines xs → AreLines ys → AreLines (xs ++ ys)
lines_more xs ys p q = elim q [
  | inl e ↦ subst AreLines (sym (append-nil xs) ∙ ap (λ l. xs ++ l) (sym e)) p
  | inr e ↦ inr (xs ++ e.0, ap (λ l. xs ++ l) e.1 ∙ sym (append_assoc xs e.0 (10 ∷ [])))
]

pub take_last : (xs : List ℕ) (n : ℕ) (x : ℕ) → slice_get xs n ≡ Some x → take (suc n) xs ≡ take n xs ++ x ∷ []
take_last [] n x e = absurd (cc)
take_last (a ∷ xs) zero x e = ap (λ y. y ∷ []) (let s : Some a ≡ Some x = e in cc)
take_last (a ∷ xs) (suc n) x e = ap (λ l. a ∷ l) (take_last xs n x e)

-- a piece ends a line, or there is none
pub piece_lines : (xs : List ℕ) (n : ℕ) → (0 < n → slice_get xs (n - 1) ≡ Some 10) → AreLines (take n xs)
piece_lines xs zero h = inl refl
piece_lines xs (suc n) h =
    let less : suc n - 1 ≡ n = omega (arith) in
    inr (take n xs, take_last xs n 10 (subst (λ m. slice_get xs m ≡ Some 10) less (h (omega (arith)))))

-- what stands in the rest is a text behind nothing
pub out_alone : (a b : Option (List ℕ)) (text rest : List ℕ) → GoesOut a text [] b rest → GoesOut a [] text b rest
out_alone a b text rest p = (p.0, p.1, sym (append-nil text) ∙ p.2)

-- a front of the rest went out
pub out_front : (a b : Option (List ℕ)) (rest rest_after : List ℕ) (n : ℕ) → Appends a b (take n rest) → rest_after ≡ drop n rest → GoesOut a rest [] b rest_after
out_front a b rest rest_after n p e = (take n rest, p, append-nil rest ∙ sym (take-append-drop n rest) ∙ ap (λ l. take n rest ++ l) (sym e))

-- ---- lines, piece by piece

pub sent_none : (a : Option (List ℕ)) (lines rest : List ℕ) → rest ≡ [] → AreSent a lines a rest lines
sent_none a lines rest e = ([], refl, inl refl, subst (GoesOut a [] [] a) (sym e) (out_none a []))

-- nothing more of them goes out
pub sent_kept : (a b c : Option (List ℕ)) (lines left rest : List ℕ) → AreSent a lines b [] left → Keeps b c → rest ≡ [] → AreSent a lines c rest left
sent_kept a b c lines left rest p k e = (
  p.0,
  p.1,
  p.2,
  subst (GoesOut a [] p.0 c) (sym e) (subst (λ x. GoesOut a [] x c []) (append-nil p.0) (out_more a b c [] [] [] p.0 [] p.3 ([], kept_nil b c k, refl))),
)

-- one piece more goes out
pub sent_more : (a b c : Option (List ℕ)) (lines left piece others rest : List ℕ) → AreSent a lines b [] left → left ≡ piece ++ others → AreLines piece
    → GoesOut b [] piece c rest → AreSent a lines c rest others
sent_more a b c lines left piece others rest p e whole q = (
  p.0 ++ piece,
  p.1 ∙ ap (λ l. p.0 ++ l) e ∙ sym (append_assoc p.0 piece others),
  lines_more p.0 piece p.2 whole,
  out_more a b c [] [] rest p.0 piece p.3 q,
)

-- ---- what goes out, and what is left out

pub from_none : (n : ℕ) → counted (0 + n) ≡ counted n
from_none n = let e : 0 + n ≡ n = omega (arith) in ap counted e

-- the rest that was left doesn't go out whole
pub logged_rest : (a b : Option (List ℕ)) (rest rest_after stamp lines : List ℕ) (lost lost_after : ℕ) → GoesOut a rest [] b rest_after
    → lost_after ≡ counted (lost + lines_in lines) → IsLogged a rest lost stamp lines b rest_after lost_after
logged_rest a b rest rest_after stamp lines lost lost_after p e = record {
  front = [];
  others = lines;
  are = refl;
  whole = inl refl;
  told = [];
  out = p;
  counts = inl (refl, inr refl, e);
}

-- so many were left out, and that they were doesn't go out whole
pub logged_untold : (a b c : Option (List ℕ)) (rest mid rest_after stamp lines : List ℕ) (lost between lost_after : ℕ) → GoesOut a rest [] b mid → mid ≡ []
    → IsToldLost false b lost stamp c rest_after between → lost_after ≡ counted (between + lines_in lines) → IsLogged a rest lost stamp lines c rest_after lost_after
logged_untold a b c rest mid rest_after stamp lines lost between lost_after p none told e = elim told [
  | inl k ↦ record {
    front = [];
    others = lines;
    are = refl;
    whole = inl refl;
    told = [];
    out = out_more a b c rest [] rest_after [] [] (subst (GoesOut a rest [] b) none p) ([], kept_nil b c k.2, sym k.1);
    counts = inl (refl, inr refl, e ∙ ap (λ n. counted (n + lines_in lines)) k.0);
  }
  | inr k ↦ record {
    front = [];
    others = lines;
    are = refl;
    whole = inl refl;
    told = lost_text stamp lost;
    out = subst (λ x. GoesOut a rest x c rest_after) (sym (append-nil (lost_text stamp lost)))
        (out_more a b c rest [] rest_after [] (lost_text stamp lost) (subst (GoesOut a rest [] b) none p) k.1);
    counts = inr (refl, e ∙ ap (λ n. counted (n + lines_in lines)) k.0 ∙ from_none (lines_in lines));
  }
]

-- that many were left out goes out, if any were, and then lines do
pub logged_sent : (a b c d : Option (List ℕ)) (rest mid between rest_after stamp lines others : List ℕ) (lost now lost_after : ℕ) → GoesOut a rest [] b mid → mid ≡ []
    → IsToldLost true b lost stamp c between now → AreSent c lines d rest_after others → lost_after ≡ counted (now + lines_in others)
    → IsLogged a rest lost stamp lines d rest_after lost_after
logged_sent a b c d rest mid between rest_after stamp lines others lost now lost_after p none told sent e =
    let first : GoesOut a rest [] b [] = subst (GoesOut a rest [] b) none p in
    elim told.1 [
      | inl k ↦ record {
        front = sent.0;
        others = others;
        are = sent.1;
        whole = sent.2;
        told = [];
        out = out_more a b d rest [] rest_after [] sent.0 first (out_more b c d [] [] rest_after [] sent.0 ([], kept_nil b c k.2, refl) sent.3);
        counts = inl (refl, inl k.0, e ∙ ap (λ n. counted (n + lines_in others)) k.1);
      }
      | inr k ↦ record {
        front = sent.0;
        others = others;
        are = sent.1;
        whole = sent.2;
        told = lost_text stamp lost;
        out = out_more a b d rest [] rest_after [] (lost_text stamp lost ++ sent.0) first
            (out_more b c d [] [] rest_after (lost_text stamp lost) sent.0 k.1 sent.3);
        counts = inr (refl, e ∙ ap (λ n. counted (n + lines_in others)) k.0 ∙ from_none (lines_in others));
      }
    ]

-- no line is there to go out
pub logged_none : {W : Type 0} (contents : W → Option (List ℕ)) (log : Option (Log W)) (lines : Lines) → lines.text.items ≡ [] → lines.lost ≡ 0 → AreLogged contents log lines log
logged_none contents None lines e f = refl
logged_none contents (Some log) lines e f = inr (e, f, refl)

-- The word of a time, from the text of a date as HTTP has it.
use Rattle.std.proofs.Common.{◌≡◌, ℕ, zero, suc, ◌+◌, ◌/◌, ◌%◌, ◌<◌, ◌≤◌, List, [], ◌∷◌, ◌++◌, get_or, take, drop, refl, ap, ◌∙◌, subst, arith}
use Rattle.httpdate.specs.Calendar.{IsCivilDate, IsTimeOfDay}
use Rattle.httpdate.specs.Text.{day_name, four_digits, imf_fixdate, month_name, time_of_day, two_digits}
use Rattle.httpdate.specs.declared.date.HttpDate.{HttpDate}
use Rattle.httpdate.specs.declared.parts.Parts.{Parts}
use Rattle.log_lines.specs.Stamps.{month_named, stamp_text}
use Rattle.log_lines.specs.Words.{AreShown, IsShown}

-- a name of three letters
record HasName (name : List ℕ) : Type 0 where
  pub a : ℕ
  pub b : ℕ
  pub c : ℕ
  pub is : name ≡ a ∷ b ∷ c ∷ []

day_has : (w : ℕ) → 1 ≤ w → w ≤ 7 → HasName (day_name w)
day_has zero low high = absurd (omega arith)
day_has (suc zero) low high = record { a = 77; b = 111; c = 110; is = refl }
day_has (suc (suc zero)) low high = record { a = 84; b = 117; c = 101; is = refl }
day_has (suc (suc (suc zero))) low high = record { a = 87; b = 101; c = 100; is = refl }
day_has (suc (suc (suc (suc zero)))) low high = record { a = 84; b = 104; c = 117; is = refl }
day_has (suc (suc (suc (suc (suc zero))))) low high = record { a = 70; b = 114; c = 105; is = refl }
day_has (suc (suc (suc (suc (suc (suc zero)))))) low high = record { a = 83; b = 97; c = 116; is = refl }
day_has (suc (suc (suc (suc (suc (suc (suc zero))))))) low high = record { a = 83; b = 117; c = 110; is = refl }
day_has (suc (suc (suc (suc (suc (suc (suc (suc n)))))))) low high = absurd (omega arith)

-- that of a month, by which it is known
record HasMonth (month : ℕ) : Type 0 where
  pub a : ℕ
  pub b : ℕ
  pub c : ℕ
  pub is : month_name month ≡ a ∷ b ∷ c ∷ []
  pub known : month_named (a ∷ b ∷ c ∷ []) ≡ month

month_has : (m : ℕ) → 1 ≤ m → m ≤ 12 → HasMonth m
month_has zero low high = absurd (omega arith)
month_has (suc zero) low high = record { a = 74; b = 97; c = 110; is = refl; known = refl }
month_has (suc (suc zero)) low high = record { a = 70; b = 101; c = 98; is = refl; known = refl }
month_has (suc (suc (suc zero))) low high = record { a = 77; b = 97; c = 114; is = refl; known = refl }
month_has (suc (suc (suc (suc zero)))) low high = record { a = 65; b = 112; c = 114; is = refl; known = refl }
month_has (suc (suc (suc (suc (suc zero))))) low high = record { a = 77; b = 97; c = 121; is = refl; known = refl }
month_has (suc (suc (suc (suc (suc (suc zero)))))) low high = record { a = 74; b = 117; c = 110; is = refl; known = refl }
month_has (suc (suc (suc (suc (suc (suc (suc zero))))))) low high = record { a = 74; b = 117; c = 108; is = refl; known = refl }
month_has (suc (suc (suc (suc (suc (suc (suc (suc zero)))))))) low high = record { a = 65; b = 117; c = 103; is = refl; known = refl }
month_has (suc (suc (suc (suc (suc (suc (suc (suc (suc zero))))))))) low high = record { a = 83; b = 101; c = 112; is = refl; known = refl }
month_has (suc (suc (suc (suc (suc (suc (suc (suc (suc (suc zero)))))))))) low high = record { a = 79; b = 99; c = 116; is = refl; known = refl }
month_has (suc (suc (suc (suc (suc (suc (suc (suc (suc (suc (suc zero))))))))))) low high = record { a = 78; b = 111; c = 118; is = refl; known = refl }
month_has (suc (suc (suc (suc (suc (suc (suc (suc (suc (suc (suc (suc zero)))))))))))) low high = record { a = 68; b = 101; c = 99; is = refl; known = refl }
month_has (suc (suc (suc (suc (suc (suc (suc (suc (suc (suc (suc (suc (suc n))))))))))))) low high = absurd (omega arith)

-- a text of a date with names of three letters
abbrev text_with : ℕ → ℕ → ℕ → ℕ → ℕ → ℕ → Parts → List ℕ
text_with a b c x y z p = (a ∷ b ∷ c ∷ 44 ∷ 32 ∷ []) ++ two_digits p.day ++ (32 ∷ x ∷ y ∷ z ∷ 32 ∷ []) ++ four_digits p.year ++ (32 ∷ []) ++ time_of_day p ++ (32 ∷ 71 ∷ 77 ∷ 84 ∷ [])

-- the text of a date shows its numbers where HTTP's format has them
pub record Shows (p : Parts) (text : List ℕ) : Type 0 where
  pub day : (get_or text 5 0 ≡ 48 + p.day / 10) × (get_or text 6 0 ≡ 48 + p.day % 10)
  pub month : month_named (take 3 (drop 8 text)) ≡ p.mon
  pub century : (get_or text 12 0 ≡ 48 + p.year / 100 / 10) × (get_or text 13 0 ≡ 48 + p.year / 100 % 10)
  pub year : (get_or text 14 0 ≡ 48 + p.year % 100 / 10) × (get_or text 15 0 ≡ 48 + p.year % 100 % 10)
  pub hour : (get_or text 17 0 ≡ 48 + p.hour / 10) × (get_or text 18 0 ≡ 48 + p.hour % 10)
  pub min : (get_or text 20 0 ≡ 48 + p.min / 10) × (get_or text 21 0 ≡ 48 + p.min % 10)
  pub sec : (get_or text 23 0 ≡ 48 + p.sec / 10) × (get_or text 24 0 ≡ 48 + p.sec % 10)

with_names : (a b c x y z : ℕ) (p : Parts) → month_named (x ∷ y ∷ z ∷ []) ≡ p.mon → Shows p (text_with a b c x y z p)
with_names a b c x y z p known = record {
  day = (refl, refl);
  month = known;
  century = (refl, refl);
  year = (refl, refl);
  hour = (refl, refl);
  min = (refl, refl);
  sec = (refl, refl);
}

named : (p : Parts) (day : HasName (day_name p.wday)) (month : HasMonth p.mon) → text_with day.a day.b day.c month.a month.b month.c p ≡ imf_fixdate p
named p day month = rw (day.is, month.is)

pub date_shows : (date : HttpDate) → Shows date.parts (imf_fixdate date.parts)
date_shows date =
    let p = date.parts in
    let civil : IsCivilDate p.year p.mon p.day = date.civil in
    let day = day_has p.wday (omega (arith, date.right_day)) (omega (arith, date.right_day)) in
    let month = month_has p.mon civil.1.0 civil.1.1 in
    subst (Shows p) {x = text_with day.a day.b day.c month.a month.b month.c p} (named p day month) (with_names day.a day.b day.c month.a month.b month.c p month.known)

-- the bytes of the word, from those of the text and of three numbers
pub stamped : (p : Parts) (millis month : ℕ) (text m s t : List ℕ) → Shows p text → month ≡ p.mon → m ≡ two_digits month → s ≡ two_digits (millis / 100)
    → t ≡ two_digits (millis % 100) → millis < 1000
    → get_or text 12 0 ∷ get_or text 13 0 ∷ get_or text 14 0 ∷ get_or text 15 0 ∷ 45 ∷ get_or m 0 0 ∷ get_or m 1 0 ∷ 45 ∷ get_or text 5 0 ∷ get_or text 6 0 ∷ 84
    ∷ get_or text 17 0 ∷ get_or text 18 0 ∷ 58 ∷ get_or text 20 0 ∷ get_or text 21 0 ∷ 58 ∷ get_or text 23 0 ∷ get_or text 24 0 ∷ 46
    ∷ get_or s 1 0 ∷ get_or t 0 0 ∷ get_or t 1 0 ∷ 90 ∷ [] ≡ stamp_text p millis
stamped p millis month text m s t shows is_month is_m is_s is_t low =
    let m0 : get_or m 0 0 ≡ 48 + p.mon / 10 = ap (λ l. get_or l 0 0) is_m ∙ ap (λ n. 48 + n / 10) is_month in
    let m1 : get_or m 1 0 ≡ 48 + p.mon % 10 = ap (λ l. get_or l 1 0) is_m ∙ ap (λ n. 48 + n % 10) is_month in
    let ten : millis / 100 % 10 ≡ millis / 100 = omega arith in
    let s1 : get_or s 1 0 ≡ 48 + millis / 100 = ap (λ l. get_or l 1 0) is_s ∙ ap (λ n. 48 + n) ten in
    let t0 : get_or t 0 0 ≡ 48 + millis % 100 / 10 = ap (λ l. get_or l 0 0) is_t in
    let t1 : get_or t 1 0 ≡ 48 + millis % 100 % 10 = ap (λ l. get_or l 1 0) is_t in
    rw (shows.century.0, shows.century.1, shows.year.0, shows.year.1, m0, m1, shows.day.0, shows.day.1, shows.hour.0, shows.hour.1, shows.min.0, shows.min.1, shows.sec.0, shows.sec.1, s1, t0, t1)

digit : (n : ℕ) → n < 10 → IsShown (48 + n)
digit n low = (omega arith, omega arith)

pub stamp_shown : (date : HttpDate) (millis : ℕ) → millis < 1000 → AreShown (stamp_text date.parts millis)
stamp_shown date millis low =
    let p = date.parts in
    let civil : IsCivilDate p.year p.mon p.day = date.civil in
    let time : IsTimeOfDay p.hour p.min p.sec = date.time in
    let day : p.day < 100 = grind (arith, civil.2.1) in (
      digit (p.year / 100 / 10) (omega arith),
      (
        digit (p.year / 100 % 10) (omega arith),
        (
          digit (p.year % 100 / 10) (omega arith),
          (
            digit (p.year % 100 % 10) (omega arith),
            (
              (omega arith, omega arith),
              (
                digit (p.mon / 10) (omega arith),
                (
                  digit (p.mon % 10) (omega arith),
                  (
                    (omega arith, omega arith),
                    (
                      digit (p.day / 10) (omega arith),
                      (
                        digit (p.day % 10) (omega arith),
                        (
                          (omega arith, omega arith),
                          (
                            digit (p.hour / 10) (omega arith),
                            (
                              digit (p.hour % 10) (omega arith),
                              (
                                (omega arith, omega arith),
                                (
                                  digit (p.min / 10) (omega arith),
                                  (
                                    digit (p.min % 10) (omega arith),
                                    (
                                      (omega arith, omega arith),
                                      (
                                        digit (p.sec / 10) (omega arith),
                                        (
                                          digit (p.sec % 10) (omega arith),
                                          (
                                            (omega arith, omega arith),
                                            (
                                              digit (millis / 100) (omega arith),
                                              (
                                                digit (millis % 100 / 10) (omega arith),
                                                (
                                                  digit (millis % 100 % 10) (omega arith),
                                                  ((omega arith, omega arith), tt),
                                                ),
                                              ),
                                            ),
                                          ),
                                        ),
                                      ),
                                    ),
                                  ),
                                ),
                              ),
                            ),
                          ),
                        ),
                      ),
                    ),
                  ),
                ),
              ),
            ),
          ),
        ),
      ),
    )

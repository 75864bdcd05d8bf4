-- Whether the tables of a store have room for a change can be told.
use Rattle.std.proofs.Common.{◌≡◌, ◌<◌, ◌+◌, ◌-◌, ◌∙◌, ◌⊎◌, ℕ, suc, Bool, true, false, List, [], ◌∷◌, arith, inl, inr, subst, sym}
use Rattle.std.specs.Prelude.{◌^◌, nat_lt}
use Rattle.std.specs.List.{AllByRecursion}
use Rattle.std.proofs.lemmas.Bool.{cases_Bool, false≢true}
use Rattle.std.proofs.lemmas.Bool.Decides.{nat_tests}
use Rattle.bureau_store.specs.Store.{Update}
use Rattle.sqlite_trees.specs.Tree.{Trees}
use Rattle.lemmas.proofs.TestFacts.{less_number}
use Rattle.sql_texts.specs.Schema.{tables}
use Rattle.sql_writes.specs.Room.{AreUpTo, are_up_to, is_short, is_short_effect, rows_of}
use Rattle.sql_writes.proofs.NumberFacts.{raised_up_to}
use Rattle.bureau_sql.specs.Failing.{HaveRoom}

all_decided : {A : Type 0} (test : A → Bool) (xs : List A) → AllByRecursion (λ x. test x ≡ true) xs ⊎ (AllByRecursion (λ x. test x ≡ true) xs → ⊥)
all_decided test [] = inl tt
all_decided test (x ∷ xs) = elim (cases_Bool (test x)) [
  | inl here ↦ elim (all_decided test xs) [
    | inl all ↦ inl (here, all)
    | inr none ↦ inr (λ all. none all.1)
  ]
  | inr off ↦ inr (λ all. absurd (false≢true (sym off ∙ all.0)))
]

not_below : (a b : ℕ) → nat_lt a b ≡ false → a < b → ⊥
not_below a b off below = grind (arith, nat_tests, off, below)

-- numbers from the highest on that leaves so many
module _ (rows : ℕ) (trees : Trees) where
  abbrev Suffices : Type 0
  Suffices = (most : ℕ) × AreUpTo most trees × (most + rows < 2 ^ 63)

  up_to_highest : (top most : ℕ) → top + suc rows ≡ 2 ^ 63 → most + rows < 2 ^ 63 → AreUpTo most trees → AreUpTo top trees
  up_to_highest top most highest few low =
      subst (λ it. AreUpTo it trees) (let above : most + (top - most) ≡ top = omega (arith, highest, few) in above) (raised_up_to most (top - most) trees low)

  numbers_suffice : Suffices ⊎ (Suffices → ⊥)
  numbers_suffice = elim (cases_Bool (nat_lt rows (2 ^ 63))) [
    | inl is ↦
        let below = less_number rows (2 ^ 63) is in
        let top : ℕ = 2 ^ 63 - suc rows in
        let highest : top + suc rows ≡ 2 ^ 63 = omega (arith, below) in
        elim (all_decided (λ table. are_up_to top (trees table.tree)) tables) [
          | inl low ↦ inl (top, low, omega (arith, highest))
          | inr none ↦ inr (λ h. none (up_to_highest top h.0 highest h.2 h.1))
        ]
    | inr off ↦ inr (λ h. not_below rows (2 ^ 63) off (let few = h.2 in omega (arith, few)))
  ]

pub decide_room : (trees : Trees) (update : Update) → HaveRoom trees update ⊎ (HaveRoom trees update → ⊥)
decide_room trees update = elim (cases_Bool (nat_lt 0 update.last.number)) [
  | inl numbered ↦ elim (cases_Bool (is_short update.last.reply)) [
    | inl reply ↦ elim (cases_Bool (is_short_effect update.effect)) [
      | inl lists ↦ elim (numbers_suffice (rows_of update.effect) trees) [
        | inl low ↦ inl (low.0, low.1, record { numbered = less_number 0 update.last.number numbered; reply = reply; lists = lists; few = low.2 })
        | inr none ↦ inr (λ h. none (h.0, h.1, h.2.few))
      ]
      | inr long ↦ inr (λ h. absurd (false≢true (sym long ∙ h.2.lists)))
    ]
    | inr long ↦ inr (λ h. absurd (false≢true (sym long ∙ h.2.reply)))
  ]
  | inr none ↦ inr (λ h. not_below 0 update.last.number none h.2.numbered)
]

-- No part of what is promised: private contracts cite it. The outcome of a change by its order; `Outcome` defines it by
-- numbers.
use Rattle.bureau_store.specs.Tables.{LastChange}
use Rattle.bureau.specs.Outcome.{Outcome, answered, bad_number, gap, stale, told}
use Rattle.bureau.specs.declared.number_order.NumberOrder.{NumberOrder}
use Rattle.bureau.specs.declared.number_order.NumberOrder.TheVariants.{Next, Again, Stale, Gap, NoNumber}

-- the change itself if it comes in its turn; else the answer in its place
abbrev pub outcome_in : NumberOrder → LastChange → Outcome → Outcome
outcome_in Next last change = change
outcome_in Again last change = told last.reply
outcome_in Stale last change = answered stale
outcome_in Gap last change = answered (gap last.number)
outcome_in NoNumber last change = answered bad_number

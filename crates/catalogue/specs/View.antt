-- How contracts look at a source, and what every call of one keeps to. A source of the published content, a store with all
-- its tables, and the bureau over both are looked at in this way.
use Rattle.std.specs.Prelude.{◌≡◌, ◌<◌, ◌≤◌, ◌⊎◌, ℕ, Result, IsErrOf}
use Rattle.std.proofs.Common.{◌∙◌, ap, sym}

-- A source as contracts see it.
pub record View (Source Held : Type 0) : Type 1 where
  -- it may be said to hold this; an open source holds one thing alone
  pub stands : Source → Held → Type 0
  -- what lies below has returned what was written to it
  pub is_clean : Source → Type 0
  -- what lies below was made by this product
  pub is_ours : Source → Type 0
  -- the number of failures of what lies below
  pub failures : Source → ℕ
  -- a stop at this moment may leave this
  pub may_leave : Source → Held → Type 0
  -- the new state holds all that the old one held
  pub keeps : Source → Source → Type 0

-- the failures are counted up to this number, at which the count stays
abbrev pub most_failures : ℕ
most_failures = 18446744073709551615

-- a source that holds more, looked at for a part of it
abbrev pub part_of : {Source Whole Part : Type 0} → (Whole → Part) → View Source Whole → View Source Part
part_of {Source} {Whole} {Part} part view = record {
  stands = λ source this. (whole : Whole) × view.stands source whole × (part whole ≡ this);
  is_clean = view.is_clean;
  is_ours = view.is_ours;
  failures = view.failures;
  may_leave = λ source this. (whole : Whole) × view.may_leave source whole × (part whole ≡ this);
  keeps = view.keeps;
}

module _ {Source Held : Type 0} (view : View Source Held) where
  -- the first failure closes a source
  abbrev pub IsOpen : Source → Type 0
  IsOpen source = view.failures source ≡ 0

  -- How a call takes a source from one state to the next. If the disk was known to be clean before, it is known to be
  -- afterwards, of all that happened so far. A file that is ours stays ours. Failures are never forgotten, so a closed
  -- source stays closed.
  pub record Goes (old new : Source) : Type 0 where
    pub clean : view.is_clean new → view.is_clean old
    pub ours : view.is_ours old → view.is_clean new → view.is_ours new
    pub failures_rise : view.failures old ≤ view.failures new

  -- A read leaves this as it was: what is held, and what a stop may leave.
  pub record Keeps (old new : Source) : Type 0 where
    pub goes : Goes old new
    pub stays : view.is_ours old → view.is_clean new → (this : Held) → view.stands old this → view.stands new this
    pub leaves : view.is_ours old → view.is_clean new → (this : Held) → view.may_leave new this → view.may_leave old this

  -- The answer of a call is a fact of what the source holds, if the file was ours and the disk has proved clean.
  pub record Tells (old new : Source) (Fact : Held → Type 0) : Type 0 where
    pub told : view.is_ours old → view.is_clean new → (this : Held) → view.stands old this → Fact this

  -- the count rose, or stands at its greatest number
  abbrev pub HasFailed : Source → Source → Type 0
  HasFailed old new = (view.failures old < view.failures new) ⊎ (view.failures new ≡ most_failures)

  -- A call that may ask the source leaves what it holds. It answers a fault of the device only if one came, and nothing else
  -- closes the source.
  pub record MayAsk {Answer Fault : Type 0} (device : Fault) (old new : Source) (answer : Result Answer Fault) : Type 0 where
    pub keeps : view.keeps old new
    pub cause : IsErrOf answer device → HasFailed old new
    pub stays_open : (IsErrOf answer device → ⊥) → IsOpen old → IsOpen new

  -- A call that does ask the source keeps to that too, and if the source is closed it answers nothing but a fault of the
  -- device.
  pub record Asks {Answer Fault : Type 0} (device : Fault) (old new : Source) (answer : Result Answer Fault) : Type 0 where
    pub keeps : view.keeps old new
    pub cause : IsErrOf answer device → HasFailed old new
    pub is_open : (IsErrOf answer device → ⊥) → IsOpen new

  -- A view's `keeps` means: to leave what is held. A call of nothing changes nothing, and two calls that each keep what is
  -- held keep it together. A source that is open holds one thing.
  pub record IsLawful : Type 0 where
    pub keeps : (old new : Source) → view.keeps old new → Keeps old new
    pub itself : (source : Source) → view.keeps source source
    pub on : (first second third : Source) → view.keeps first second → view.keeps second third → view.keeps first third
    pub one : (source : Source) → IsOpen source → (this other : Held) → view.stands source this → view.stands source other → this ≡ other

-- a part of what is held keeps to the laws of the whole
pub part_lawful : {Source Whole Part : Type 0} (part : Whole → Part) (view : View Source Whole) → IsLawful view → IsLawful (part_of part view)
part_lawful part view lawful = record {
  keeps = λ old new kept.
      let keeps = lawful.keeps old new kept in
      record {
        goes = record { clean = keeps.goes.clean; ours = keeps.goes.ours; failures_rise = keeps.goes.failures_rise };
        stays = λ ours clean this stands. (stands.0, keeps.stays ours clean stands.0 stands.1, stands.2);
        leaves = λ ours clean this left. (left.0, keeps.leaves ours clean left.0 left.1, left.2);
      };
  itself = lawful.itself;
  on = lawful.on;
  one = λ source is_open this other first second.
      sym first.2 ∙ ap part (lawful.one source is_open first.0 second.0 first.1 second.1) ∙ second.2;
}

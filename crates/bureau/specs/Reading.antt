-- No part of what is promised: private contracts cite it. The reads on the way to an answer.
use Rattle.std.specs.Prelude.{◌≡◌, ℕ, List, Result, IfOk, OnOk}
use Rattle.std.specs.Global.{Vec}
use Rattle.catalogue.specs.Content.{Content}
use Rattle.catalogue.specs.View.{IsOpen, MayAsk, Tells, View}
use Rattle.catalogue.specs.declared.fault.SourceFault.{SourceFault}
use Rattle.catalogue.specs.declared.fault.SourceFault.TheVariants.{Device}

module _ {Source Held : Type 0} (view : View Source Held) where
  -- A call that may read keeps what is held, and if it answers, a source that was open is open.
  pub record MayRead {Answer Fault : Type 0} (old new : Source) (answer : Result Answer Fault) : Type 0 where
    pub keeps : view.keeps old new
    pub stays_open : OnOk answer (IsOpen view old → IsOpen view new)

  -- A call that has read keeps what is held, and if it answers, the source is open.
  pub record HasRead {Answer Fault : Type 0} (old new : Source) (answer : Result Answer Fault) : Type 0 where
    pub keeps : view.keeps old new
    pub is_open : OnOk answer (IsOpen view new)

-- A call that makes a text of the published content may ask the source for it. If the judge is right for the content, the
-- text is this one, and the judge stays right.
pub record TellsText {Source Judge : Type 0} (view : View Source Content) (is_right : Judge → Content → Type 0) (old new : Source) (before after : Judge) (answer : Result (Vec ℕ) SourceFault) (text_of : Content → List ℕ) : Type 0 where
  pub asks : MayAsk view Device old new answer
  pub text : IfOk answer (λ text. Tells view old new (λ content. is_right before content → text.items ≡ text_of content))
  pub right : Tells view old new (λ content. is_right before content → is_right after content)

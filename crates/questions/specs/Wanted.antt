-- The rows of a report, or the plan for it.
use Rattle.questions.specs.declared.wanted.Form.{Form}
use Rattle.questions.specs.declared.wanted.Wanted.{Wanted}
use Rattle.questions.specs.declared.wanted.Wanted.TheVariants.{Rows, Plan}

-- the form in which it is wanted
abbrev pub form_of : Wanted → Form
form_of (Rows form) = form
form_of (Plan form) = form

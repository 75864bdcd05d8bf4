-- No part of what is promised: private contracts cite it. The search for the end of a head, byte by byte: the bytes before
-- the next one decide.
use Rattle.std.specs.Prelude.{ℕ, ◌+◌, ◌==◌, Bool, true, false, List, [], ◌∷◌, Option, Some, None, Result, Ok, Err, if◌then◌else◌}
use Rattle.requests.specs.HeadEnd.{line_feed, carriage_return}
use Rattle.requests.specs.declared.front.Front.{Front}
use Rattle.requests.specs.declared.front.Front.TheVariants.{CleanEnd, EndInside}
use Rattle.requests.specs.declared.head_end.Ending.{Ending}
use Rattle.requests.specs.declared.head_end.Ending.TheVariants.{EmptyLines, EmptyLinesReturn, Line, Feed, FeedReturn}

-- the ending after a byte, or none if the head ends with it
abbrev pub after : Ending → ℕ → Option Ending
after EmptyLines b = if b == line_feed then Some EmptyLines else if b == carriage_return then Some EmptyLinesReturn else Some Line
after EmptyLinesReturn b = if b == line_feed then Some EmptyLines else Some Line
after Line b = if b == line_feed then Some Feed else Some Line
after Feed b = if b == line_feed then None else if b == carriage_return then Some FeedReturn else Some Line
after FeedReturn b = if b == line_feed then None else Some Line

-- one byte more
abbrev pub counted : Result ℕ Ending → Result ℕ Ending
counted (Ok n) = Ok (n + 1)
counted (Err ending) = Err ending

abbrev pub go_on : Option Ending → (Ending → Result ℕ Ending) → Result ℕ Ending
go_on None search = Ok 1
go_on (Some ending) search = counted (search ending)

-- the number of bytes up to the end of the head, or the ending after them all
unfoldable pub search : Ending → List ℕ → Result ℕ Ending
search ending [] = Err ending
search ending (b ∷ bytes) = go_on (after ending b) (λ next. search next bytes)

-- bytes that stand after others
abbrev pub further : ℕ → Result ℕ Ending → Result ℕ Ending
further n (Ok m) = Ok (n + m)
further n (Err ending) = Err ending

-- the search in bytes that come in two pieces, from what it found in the first
abbrev pub resumed : ℕ → Result ℕ Ending → List ℕ → Result ℕ Ending
resumed n (Ok m) more = Ok m
resumed n (Err ending) more = further n (search ending more)

-- no head's end was found, and only empty lines, if any
abbrev pub ends_clean : Result ℕ Ending → Bool
ends_clean (Ok n) = false
ends_clean (Err EmptyLines) = true
ends_clean (Err EmptyLinesReturn) = false
ends_clean (Err Line) = false
ends_clean (Err Feed) = false
ends_clean (Err FeedReturn) = false

-- the front of an input that ends after such bytes
abbrev pub ended : Ending → Front
ended EmptyLines = CleanEnd
ended EmptyLinesReturn = EndInside
ended Line = EndInside
ended Feed = EndInside
ended FeedReturn = EndInside

-- Worked examples.
use Rattle.std.proofs.Common.{◌≡◌, [], codes, refl, Some, None}
use Rattle.std.specs.Fmt.{digits}
use Rattle.httpdate.specs.declared.parts.Parts.{Parts}
use Rattle.log_lines.specs.Lines.{fault_text, lost_text, request_text}
use Rattle.log_lines.specs.Stamps.{stamp_text}
use Rattle.log_lines.specs.Words.{word_of}
use Rattle.log_lines.specs.declared.note.Note.{Note}

-- a blank and a line end
blank_shown : word_of (codes "/zones/T 1\n") ≡ codes "/zones/T?1?"
blank_shown = refl

nothing_shown : word_of [] ≡ codes "-"
nothing_shown = refl

-- RFC 9110, section 5.6.7, has this second as `Sun, 06 Nov 1994 08:49:37 GMT`
abbrev second : Parts
second = record { year = 1994; mon = 11; day = 6; hour = 8; min = 49; sec = 37; wday = 7 }

second_stamped : stamp_text second 7 ≡ codes "1994-11-06T08:49:37.007Z"
second_stamped = refl

abbrev report : Note
report = record { caller = codes "NORTH"; method = codes "GET"; path = codes "/zones/TGT1"; status = 404; came = 71; went = 120; lack = None }

report_told : request_text (codes "1994-11-06T08:49:37.007Z") report 0 ≡ codes "1994-11-06T08:49:37.007Z NORTH GET /zones/TGT1 404 71 120 0\n"
unfolding digits
report_told = refl

-- a call for which there was no room
lacking_told : request_text (codes "1994-11-06T08:49:37.007Z") (record report { status = 503; lack = Some (codes "device") }) 0
    ≡ codes "1994-11-06T08:49:37.007Z NORTH GET /zones/TGT1 503 71 120 0 device\n"
unfolding digits
lacking_told = refl

lost_told : lost_text (codes "2026-11-28T08:15:09.002Z") 17 ≡ codes "2026-11-28T08:15:09.002Z - LOST 17\n"
unfolding digits
lost_told = refl

fault_told : fault_text (codes "1994-11-06T08:49:37.007Z") 53 ≡ codes "1994-11-06T08:49:37.007Z - FAULT 53\n"
unfolding digits
fault_told = refl

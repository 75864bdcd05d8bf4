use Rattle.std.proofs.Common.{◌≡◌, inl, inr, ℕ, List, IfOk, IfErr, IsErrAnd, MatchResult, Result, Ok, Err, Vec, Global, subst}
use Rattle.std.proofs.lemmas.Result.{err_from_is_err_and}
use Rattle.faults.specs.Refusal.{IsRefusal}
use Rattle.mcs_reader.specs.Reading.{HasOneOutcome, IsFirstFault, IsReading}
use Rattle.mcs_reader.specs.Unread.{IsRead, Read}
use Rattle.mcs_reader.specs.declared.fault.McsFault.{McsFault}
use Rattle.mcs_reader.specs.declared.fault.McsFault.TheVariants.{Memory}
use Rattle.mcs_reader.specs.declared.statement.Statement.{Statement}
use Rattle.mcs_reader.proofs.source.read.Goals as goal

abbrev Found : Type 0
Found = Result (Vec Statement Global) McsFault

-- what is found is the source's reading, or its first fault
abbrev IsOk : List ℕ → Found → Type 0
IsOk source found = IfOk found (λ statements. IsReading source statements.items)

abbrev IsErr : List ℕ → Found → Type 0
IsErr source found = IfErr found (IsRefusal Memory (λ fault. IsFirstFault source fault))

is_ok : (source : List ℕ) (reading : Read) (found : Found) → IsRead source reading → IfOk found (λ statements. reading ≡ Ok statements.items) → IsOk source found
is_ok source reading (Ok statements) is e = subst (IsRead source) e is
is_ok source reading (Err fault) is e = tt

is_err : (source : List ℕ) (reading : Read) (found : Found) → IsRead source reading → IfErr found (IsRefusal Memory (λ fault. reading ≡ Err fault)) → IsErr source found
is_err source reading (Ok statements) is e = tt
is_err source reading (Err fault) is (inl memory) = inl memory
is_err source reading (Err fault) is (inr e) = inr (subst (IsRead source) e is)

memory_alone : (source : List ℕ) (fault : McsFault) (statements : List Statement) → HasOneOutcome source → IsReading source statements → IsRefusal Memory (λ fault. IsFirstFault source fault) fault → fault ≡ Memory
memory_alone source fault statements one is (inl memory) = memory
memory_alone source fault statements one is (inr first) = absurd (one.not_both statements fault is first)

read_if_reading : (source : List ℕ) (found : Found) → HasOneOutcome source → IsOk source found → IsErr source found → (statements : List Statement) → IsReading source statements
    → MatchResult found (λ v. v.items ≡ statements) (λ fault. fault ≡ Memory)
read_if_reading source (Ok v) one ok err statements is = one.one_reading v.items statements ok is
read_if_reading source (Err fault) one ok err statements is = memory_alone source fault statements one is err

same_fault : (source : List ℕ) (fault first : McsFault) → HasOneOutcome source → IsFirstFault source first → IsRefusal Memory (λ fault. IsFirstFault source fault) fault → IsRefusal Memory (λ fault. fault ≡ first) fault
same_fault source fault first one is (inl memory) = inl memory
same_fault source fault first one is (inr other) = inr (one.one_fault fault first other is)

refused_if_fault : (source : List ℕ) (found : Found) → HasOneOutcome source → IsOk source found → IsErr source found → (first : McsFault) → IsFirstFault source first
    → IsErrAnd found (IsRefusal Memory (λ fault. fault ≡ first))
refused_if_fault source (Ok v) one ok err first is = one.not_both v.items first ok is
refused_if_fault source (Err fault) one ok err first is = same_fault source fault first one is err

pub returns-in_err-new-clause-read : goal.returns-in_err-new-clause-read
returns-in_err-new-clause-read c =
    let p = err_from_is_err_and c.from_residual.result c.from_residual.ensures.1 in
    rw (p.1, p.2) (λ statements is. absurd (c.new.ensures.one_outcome.not_both statements c.in_err-new.field-0.0 is c.in_err-new.ensures.fault))

pub returns-in_err-new-clause-refused : goal.returns-in_err-new-clause-refused
returns-in_err-new-clause-refused c =
    let p = err_from_is_err_and c.from_residual.result c.from_residual.ensures.1 in
    rw (p.1, p.2) (λ first is. inr (c.new.ensures.one_outcome.one_fault c.in_err-new.field-0.0 first c.in_err-new.ensures.fault is))

pub returns-clause-read : goal.returns-clause-read
returns-clause-read c =
    read_if_reading c.args.source.now c.collect.result c.new.ensures.one_outcome
    (is_ok c.args.source.now c.in_ok-new.field-0.reading c.collect.result c.in_ok-new.ensures.reading c.collect.ensures.ok)
    (is_err c.args.source.now c.in_ok-new.field-0.reading c.collect.result c.in_ok-new.ensures.reading c.collect.ensures.fault)

pub returns-clause-refused : goal.returns-clause-refused
returns-clause-refused c =
    refused_if_fault c.args.source.now c.collect.result c.new.ensures.one_outcome
    (is_ok c.args.source.now c.in_ok-new.field-0.reading c.collect.result c.in_ok-new.ensures.reading c.collect.ensures.ok)
    (is_err c.args.source.now c.in_ok-new.field-0.reading c.collect.result c.in_ok-new.ensures.reading c.collect.ensures.fault)

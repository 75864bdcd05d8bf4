use Rattle.mcs_reader.specs.Line.{text_of}
use Rattle.mcs_reader.proofs.PositionFacts.{verb_at-position, verb_at-rest, IsLine-verb, HasHeadroom-rest, IsAfter-columns}
use Rattle.mcs_reader.proofs.cursor.Cursor.take_verb.Goals as goal

pub invariant_of-self : goal.invariant_of-self
invariant_of-self c =
    let columns = c.self.inside.columns.now in
    let cut = verb_at-rest columns c.in-Some.verb c.in-Some.rest.now c.in-Some.ensures in
    record {
      one_line = IsLine-verb columns c.in-Some.verb c.in-Some.rest.now c.self.invariant.one_line c.in-Some.ensures;
      headroom = HasHeadroom-rest c.self.inside.line columns (cut.0) (c.in-Some.rest.now) (text_of c.self.inside.after.now) c.self.invariant.one_line (cut.1) c.self.invariant.headroom;
    }

pub returns-in-Some-clause-verb : goal.returns-in-Some-clause-verb
returns-in-Some-clause-verb c =
    verb_at-position c.self.inside.line c.self.inside.columns.now (text_of c.self.inside.after.now) c.args.self.now _ c.self.view_is c.in-Some.ensures

pub returns-in-Some-clause-after : goal.returns-in-Some-clause-after
returns-in-Some-clause-after c =
    let columns = c.self.inside.columns.now in
    let cut = verb_at-rest columns c.in-Some.verb c.in-Some.rest.now c.in-Some.ensures in
    IsAfter-columns c.self.inside.line columns cut.0 c.in-Some.rest.now (text_of c.self.inside.after.now) c.args.self.now c.self.invariant.one_line cut.1 c.self.view_is

pub returns-in-None-clause-verb : goal.returns-in-None-clause-verb
returns-in-None-clause-verb c =
    verb_at-position c.self.inside.line c.self.inside.columns.now (text_of c.self.inside.after.now) c.args.self.now _ c.self.view_is c.in-None.ensures

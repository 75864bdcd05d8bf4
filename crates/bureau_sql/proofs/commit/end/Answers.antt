use Rattle.std.proofs.Common.{IsOk, rules}
use Rattle.sqlite.specs.Held.{state}
use Rattle.bureau_sql.proofs.CommitFacts.{commit_fails, refused_commit}
use Rattle.bureau_sql.proofs.commit.end.Goals as goal

pub returns-clause-refused : goal.returns-clause-refused
returns-clause-refused g c = refused_commit (state g.S.Store c.args.tx.conn.now) (state g.S.Store c.commit.new.self.0) c.commit.result c.commit.ensures.err

pub returns-clause-fails : goal.returns-clause-fails
returns-clause-fails g c =
    let wrote : IsOk c.args.written = search rules in
    commit_fails c.args.written (state g.S.Store c.args.tx.conn.now) (state g.S.Store c.commit.new.self.0) c.commit.result wrote c.commit.ensures.err

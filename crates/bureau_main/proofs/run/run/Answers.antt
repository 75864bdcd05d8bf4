use Rattle.bureau_main.proofs.run.run.Goals as goal

-- what that run left is what was copied
pub returns : goal.returns
returns g c = (c.run-status.result.1, c.close.ensures, c.run-status.ensures)

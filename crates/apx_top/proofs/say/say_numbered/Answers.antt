use Rattle.apx_top.proofs.say.say_numbered.Goals as goal

pub returns-clause-written : goal.returns-clause-written
returns-clause-written g c = rw (c.format-line.ensures.text, c.format-why.ensures.text) at c.write_to.ensures.written

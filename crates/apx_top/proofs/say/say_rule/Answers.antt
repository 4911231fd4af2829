use Rattle.apx_top.proofs.say.say_rule.Goals as goal

pub returns-clause-written : goal.returns-clause-written
returns-clause-written g c = rw (c.format-code.ensures.text, c.blank_before.ensures, c.text-place.ensures) at c.write_to.ensures.written

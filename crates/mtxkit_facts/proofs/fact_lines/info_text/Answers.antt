use Rattle.mtxkit_facts.proofs.fact_lines.info_text.Goals as goal

pub returns-clause-written : goal.returns-clause-written
returns-clause-written c =
    (c.in_ok-facts.facts, (c.in_ok-facts.ensures.are, c.in_ok-written_in.ensures))

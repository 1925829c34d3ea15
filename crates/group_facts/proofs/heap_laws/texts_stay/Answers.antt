use Rattle.group_facts.proofs.HeapTexts.{text_stays, links_stay}
use Rattle.group_facts.proofs.heap_laws.texts_stay.Goals as goal

pub returns-clause-text : goal.returns-clause-text
returns-clause-text c = text_stays

pub returns-clause-links : goal.returns-clause-links
returns-clause-links c = links_stay

use Rattle.h5stack_core.proofs.TellLemmas.{told_same, told_nothing, told_words, told_create, told_script, complete, complete_refused}
use Rattle.h5stack_core.proofs.running.run.Goals as goal

pub returns-clause-words : goal.returns-clause-words
returns-clause-words g c = λ fault is. c.perform-performed.ensures.words fault (told_same _ _ _ c.tell-ending.ensures.ended is (λ e. cc))

pub returns-clause-words_first : goal.returns-clause-words_first
returns-clause-words_first g c = λ fault is. told_words fault _ _ c.tell-ending.ensures.ended (c.perform-performed.ensures.words_first fault is)

pub returns-clause-store_fault : goal.returns-clause-store_fault
returns-clause-store_fault g c = λ is. c.perform-performed.ensures.store_fault (told_same _ _ _ c.tell-ending.ensures.ended is (λ e. cc))

pub returns-clause-input_fault : goal.returns-clause-input_fault
returns-clause-input_fault g c = λ is. c.perform-performed.ensures.input_fault (told_same _ _ _ c.tell-ending.ensures.ended is (λ e. cc))

pub returns-clause-output_fault : goal.returns-clause-output_fault
returns-clause-output_fault g c = λ is. c.perform-performed.ensures.output_fault (told_same _ _ _ c.tell-ending.ensures.ended is (λ e. cc))

pub returns-clause-same : goal.returns-clause-same
returns-clause-same g c = told_nothing _ _ _ c.tell-ending.ensures.ended c.perform-performed.ensures.same

pub returns-clause-silent : goal.returns-clause-silent
returns-clause-silent g c = told_nothing _ _ _ c.tell-ending.ensures.ended c.perform-performed.ensures.silent

pub returns-clause-unread : goal.returns-clause-unread
returns-clause-unread g c = told_nothing _ _ _ c.tell-ending.ensures.ended c.perform-performed.ensures.unread

pub returns-clause-create : goal.returns-clause-create
returns-clause-create g c = λ file is. told_create _ _ _ _ _ _ _ _ _ c.tell-ending.ensures.ended (c.perform-performed.ensures.create file is)

pub returns-clause-script : goal.returns-clause-script
returns-clause-script g c = λ file is. told_script _ _ _ _ _ _ _ _ _ c.tell-ending.ensures.ended (c.perform-performed.ensures.script file is)

pub returns-clause-complete : goal.returns-clause-complete
returns-clause-complete g c = λ asked is told can calm.
    complete _ _ _ _ _ _ _ _ _ _ (returns-clause-create g c) (returns-clause-script g c) (returns-clause-store_fault g c) (returns-clause-input_fault g c) (returns-clause-output_fault g c) asked is told can calm

pub returns-clause-complete_refused : goal.returns-clause-complete_refused
returns-clause-complete_refused g c = λ asked is told refused calm.
    complete_refused _ _ _ _ _ _ (returns-clause-create g c) (returns-clause-script g c) (returns-clause-store_fault g c) asked is told refused calm

-- The law for schedules and for scripts of both sides: a line that tells something is found, and no other one.

use Rattle.line_schedule.proofs.EventReaders.{a_script_line, an_event, no_event, none_told}
use Rattle.line_schedule.proofs.laws.readers_find_the_meaning.Goals as goal

pub returns-clause-event : goal.returns-clause-event
returns-clause-event c = λ line told is. an_event.there told line is

pub returns-clause-event_again : goal.returns-clause-event_again
returns-clause-event_again c = λ line told is. an_event.again told line is

pub returns-clause-told : goal.returns-clause-told
returns-clause-told c = λ side line told is. (a_script_line side).there told line is

pub returns-clause-told_again : goal.returns-clause-told_again
returns-clause-told_again c = λ side line told is. (a_script_line side).again told line is

pub returns-clause-no_event : goal.returns-clause-no_event
returns-clause-no_event c = no_event

pub returns-clause-none_told : goal.returns-clause-none_told
returns-clause-none_told c = none_told

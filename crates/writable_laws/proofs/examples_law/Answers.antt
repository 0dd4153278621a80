use Rattle.writable_laws.proofs.Examples.{bounds_immediates, refuses_head, refuses_headers, refuses_operands, refuses_text, takes_function, takes_head, takes_symbols, takes_text}
use Rattle.writable_laws.proofs.examples_law.Goals as goal

pub returns-clause-head : goal.returns-clause-head
returns-clause-head c = takes_head

pub returns-clause-text : goal.returns-clause-text
returns-clause-text c = takes_text

pub returns-clause-immediates : goal.returns-clause-immediates
returns-clause-immediates c = bounds_immediates

pub returns-clause-no_operands : goal.returns-clause-no_operands
returns-clause-no_operands c = refuses_operands

pub returns-clause-no_head : goal.returns-clause-no_head
returns-clause-no_head c = refuses_head

pub returns-clause-no_text : goal.returns-clause-no_text
returns-clause-no_text c = refuses_text

pub returns-clause-symbols : goal.returns-clause-symbols
returns-clause-symbols c = takes_symbols

pub returns-clause-no_header : goal.returns-clause-no_header
returns-clause-no_header c = refuses_headers

pub returns-clause-function : goal.returns-clause-function
returns-clause-function c = takes_function

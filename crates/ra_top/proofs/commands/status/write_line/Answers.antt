use Rattle.ra_top.proofs.commands.status.write_line.Goals as goal

pub returns-in-Usage-clause-all : goal.returns-in-Usage-clause-all
returns-in-Usage-clause-all g c = rw c.in-Usage.is c.write_text.ensures.all

pub returns-in-Usage-clause-part : goal.returns-in-Usage-clause-part
returns-in-Usage-clause-part g c = rw c.in-Usage.is c.write_text.ensures.part

pub returns-in-WriteFault-clause-all : goal.returns-in-WriteFault-clause-all
returns-in-WriteFault-clause-all g c = rw c.in-WriteFault.is c.write_text-in-WriteFault.ensures.all

pub returns-in-WriteFault-clause-part : goal.returns-in-WriteFault-clause-part
returns-in-WriteFault-clause-part g c = rw c.in-WriteFault.is c.write_text-in-WriteFault.ensures.part

pub returns-in-Memory-clause-all : goal.returns-in-Memory-clause-all
returns-in-Memory-clause-all g c = rw c.in-Memory.is c.write_text-in-Memory.ensures.all

pub returns-in-Memory-clause-part : goal.returns-in-Memory-clause-part
returns-in-Memory-clause-part g c = rw c.in-Memory.is c.write_text-in-Memory.ensures.part

pub returns-in-NotYet-clause-all : goal.returns-in-NotYet-clause-all
returns-in-NotYet-clause-all g c = rw c.in-NotYet.is c.write_text-in-NotYet.ensures.all

pub returns-in-NotYet-clause-part : goal.returns-in-NotYet-clause-part
returns-in-NotYet-clause-part g c = rw c.in-NotYet.is c.write_text-in-NotYet.ensures.part

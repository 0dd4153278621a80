-- The lines of a body give registers only classes of the target.
use Rattle.std.proofs.Common.{ℕ, List, Option, Some, None, Ok, Err}
use Rattle.std.specs.Prelude.{IfOk, codes, is_some}
use Rattle.target_base.specs.declared.types.Target.{Target}
use Rattle.mir_lines.specs.Bytes.{is_blank, skip, behind_word}
use Rattle.mir_lines.specs.Instructions.{without_comment, instruction_of}
use Rattle.mir_lines.specs.Blocks.{header_of, successors_of, liveins_of}
use Rattle.mir_lines.specs.declared.raw.RawHeader.{RawHeader}
use Rattle.mir_read.specs.declared.stop.TextKind.TheVariants as kinds
use Rattle.mir_read.specs.Names.{name_lists}
use Rattle.mir_read.specs.Reading.{or_fault}
use Rattle.mir_read.specs.Resolving.{regs_named, instr_named}
use Rattle.mir_read.specs.Body.{is_begun, takes_successors, takes_liveins}
use Rattle.mir_text.specs.BodyLines.{header_put, header_line, successors_line, liveins_line, instr_line, liveins_or, successors_or, worded, spaced, body_line}
use Rattle.mir_text.proofs.Laws.Types.{Reading}
use Rattle.mir_text.proofs.Laws.Given.{GiveClasses}
use Rattle.mir_text.proofs.Laws.Looked.{bind-ok, fault-ok, either-ok, any-some, instr-gives}

module _ (t : Target) where
  -- both the registers of the keys and those of the body
  pub record ReadingGives (r : Reading) : Type 0 where
    pub keys : GiveClasses t r.keys.registers
    pub ranges : GiveClasses t r.ranges

  put-gives : (r : Reading) (h : RawHeader) → ReadingGives r → ReadingGives (header_put t r h)
  unfolding header_put
  put-gives r h g = record { keys = g.keys; ranges = g.ranges }

  header-gives : (r : Reading) (text : List ℕ) → ReadingGives r → IfOk (header_line t r text) ReadingGives
  unfolding header_line
  header-gives r text g = bind-ok (or_fault kinds.Token (header_of text)) _ (λ x. Unit {0}) ReadingGives (fault-ok kinds.Token (header_of text) (λ x. Unit {0}) (any-some (header_of text))) (λ h u. put-gives r h g)

  successors-give : (r : Reading) (text : List ℕ) → ReadingGives r → IfOk (successors_line r text) ReadingGives
  unfolding successors_line
  successors-give r text g =
      either-ok (takes_successors r.body) _ (Err kinds.Layout) ReadingGives
      (bind-ok (or_fault kinds.Token (successors_of text)) _ (λ x. Unit {0}) ReadingGives (fault-ok kinds.Token (successors_of text) (λ x. Unit {0}) (any-some (successors_of text))) (λ es u. record { keys = g.keys; ranges = g.ranges }))
      tt

  liveins-give : (r : Reading) (text : List ℕ) → ReadingGives r → IfOk (liveins_line (name_lists t) r text) ReadingGives
  unfolding liveins_line
  liveins-give r text g =
      either-ok (takes_liveins r.body) _ (Err kinds.Layout) ReadingGives
      (bind-ok (or_fault kinds.Token (liveins_of text)) _ (λ x. Unit {0}) ReadingGives (fault-ok kinds.Token (liveins_of text) (λ x. Unit {0}) (any-some (liveins_of text))) (λ ws u.
      bind-ok (or_fault kinds.Name (regs_named (name_lists t) ws)) _ (λ x. Unit {0}) ReadingGives (fault-ok kinds.Name (regs_named (name_lists t) ws) (λ x. Unit {0}) (any-some (regs_named (name_lists t) ws))) (λ rs v. record { keys = g.keys; ranges = g.ranges })))
      tt

  instr-line-gives : (r : Reading) (text : List ℕ) → ReadingGives r → IfOk (instr_line t (name_lists t) r text) ReadingGives
  unfolding instr_line
  instr-line-gives r text g =
      either-ok (is_begun r.body) _ (Err kinds.Layout) ReadingGives
      (bind-ok (or_fault kinds.Token (instruction_of t text)) _ (λ x. Unit {0}) ReadingGives (fault-ok kinds.Token (instruction_of t text) (λ x. Unit {0}) (any-some (instruction_of t text))) (λ i u.
      bind-ok (or_fault kinds.Name (instr_named (name_lists t) r.headers r.keys.registers r.ranges r.body.next_id i)) _ (λ x. GiveClasses t x.0) ReadingGives (fault-ok kinds.Name (instr_named (name_lists t) r.headers r.keys.registers r.ranges r.body.next_id i) (λ x. GiveClasses t x.0) (instr-gives t r.headers r.keys.registers g.keys r.ranges r.body.next_id i g.ranges)) (λ p h. record { keys = g.keys; ranges = h })))
      tt

  or-liveins : (r : Reading) (text : List ℕ) (list : Option (List ℕ)) → ReadingGives r → IfOk (liveins_or t (name_lists t) r text list) ReadingGives
  or-liveins r text None g = instr-line-gives r text g
  or-liveins r text (Some list) g = liveins-give r list g

  or-successors : (r : Reading) (text : List ℕ) (list : Option (List ℕ)) → ReadingGives r → IfOk (successors_or t (name_lists t) r text list) ReadingGives
  or-successors r text None g = or-liveins r text (behind_word (codes "liveins:") text) g
  or-successors r text (Some list) g = successors-give r list g

  worded-gives : (r : Reading) (text : List ℕ) → ReadingGives r → IfOk (worded t (name_lists t) r text) ReadingGives
  unfolding worded
  worded-gives r text g =
      either-ok (is_some (behind_word (codes "bb.") text)) (header_line t r text) _ ReadingGives (header-gives r text g)
      (or-successors r text (behind_word (codes "successors:") text) g)

  spaced-gives : (r : Reading) (text : Option (List ℕ)) → ReadingGives r → IfOk (spaced t (name_lists t) r text) ReadingGives
  spaced-gives r None g = tt
  spaced-gives r (Some text) g = worded-gives r (skip text) g

  -- one line of a body
  pub body-line-gives : (r : Reading) (line : List ℕ) → ReadingGives r → IfOk (body_line t (name_lists t) r line) ReadingGives
  unfolding body_line
  body-line-gives r line g =
      either-ok (is_blank (without_comment line)) (Ok r) _ ReadingGives g
      (spaced-gives r (behind_word (codes " ") (without_comment line)) g)

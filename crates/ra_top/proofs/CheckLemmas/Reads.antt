-- Documents that are read in turn.
use Rattle.std.proofs.Common.{◌≡◌, ℕ, ◌<◌, List, [], ◌∷◌, ◌++◌, Option, Some, None, refl, ap, sym, ◌∙◌, subst, inl, inr, append-nil, length}
use Rattle.std.specs.Prelude.{IfSome}
use Rattle.std.proofs.lemmas.Grind.{flat_map-append}
use Rattle.target_base.specs.declared.types.Target.{Target}
use Rattle.mir_func.specs.Value.{Function}
use Rattle.mir_text.specs.declared.doc.Doc.{Doc}
use Rattle.mir_text.specs.declared.doc.Doc.TheVariants as docs
use Rattle.ra_top.specs.Devices.Pieces.{NoneWhole}
use Rattle.ra_top.specs.Devices.Unread.{Taken}
use Rattle.ra_top.specs.declared.commands.refusal.Refusal.{Refusal}
use Rattle.ra_top.specs.declared.commands.refusal.Refusal.TheVariants as refusals
use Rattle.ra_top.specs.declared.commands.spot.DocStart.{DocStart}
use Rattle.ra_top.specs.declared.commands.status.Status.{Status}
use Rattle.ra_top.specs.declared.commands.status.Status.TheVariants as status
use Rattle.ra_top.specs.Commands.Spot.{first_spot, after}
use Rattle.ra_top.specs.Commands.Answer.{IsSpelled}
use Rattle.ra_top.specs.Commands.Piece.{IfBy, IsUnspelled}
use Rattle.ra_top.specs.Checked.{function_of, functions_of, IfFunction, Reads, IsRead, RefusesFunction, IsRefused, Breaks, IsBroken}
use Rattle.ra_top.specs.Due.{IsUnfinished}
use Rattle.ra_top.specs.Reading.{IfUnbegun, Behind, SpellsNone, IsUnread}
use Rattle.ra_top.proofs.Nothing.{none_of_nothing, nothing_whole}
use Rattle.ra_top.proofs.Documents.{Cut, Ended, cut_of, all_read, nothing}

mapped : (P Q : List ℕ → Type 0) → ((l : List ℕ) → P l → Q l) → (o : Option (List ℕ)) → IfSome o P → IfSome o Q
mapped P Q h None p = tt
mapped P Q h (Some l) p = h l p

-- nothing more was read
pub file_ends : (first : Option (List ℕ)) (chunk0 piece : List ℕ) → length piece ≡ 0 → Ended first chunk0 piece → IfSome first (λ l. chunk0 ++ l ≡ [])
file_ends first chunk0 piece none end = all_read first chunk0 (subst (λ p. Ended first chunk0 p) (nothing piece none) end)

-- the piece that was read spells a document
pub reads_on : (t : Target) (spot next : DocStart) (first : Option (List ℕ)) (chunk0 : List ℕ) (left : Option (List ℕ)) (chunk piece : List ℕ) (d : Doc) → 0 < length piece → NoneWhole piece → Taken first chunk0 left chunk piece → Ended first chunk0 piece → next ≡ after spot piece → IsSpelled t spot piece d → IfSome first (λ l. Behind t spot next (chunk0 ++ l) left chunk d)
reads_on t spot next first chunk0 left chunk piece d filled none taken end e is =
    mapped (λ l. Cut (chunk0 ++ l) left chunk piece) (λ l. Behind t spot next (chunk0 ++ l) left chunk d)
    (λ l c. record { piece = piece; rest = c.rest; left_is = c.left_is; cut = c.whole; held = c.held; next_is = e; spelled = is })
    first (cut_of first chunk0 left chunk piece filled none taken end)

spells_none : (t : Target) (spot : DocStart) (text : List ℕ) (left : Option (List ℕ)) (chunk piece : List ℕ) (s : Status) (detail : List ℕ) → Cut text left chunk piece → IsUnspelled t spot piece s detail → IsUnread t spot text left s detail
spells_none t spot text left chunk piece (status.Limit l) detail c is = record { piece = piece; rest = chunk ++ c.rest; cut = c.whole; held = c.held; unspelled = is }
spells_none t spot text left chunk piece (status.Text f) detail c is = record { piece = piece; rest = chunk ++ c.rest; cut = c.whole; held = c.held; unspelled = is }
spells_none t spot text left chunk piece status.Done detail c is = absurd is
spells_none t spot text left chunk piece status.Usage detail c is = absurd is
spells_none t spot text left chunk piece (status.Target f) detail c is = absurd is
spells_none t spot text left chunk piece (status.Invalid x) detail c is = absurd is
spells_none t spot text left chunk piece (status.Unassignable p) detail c is = absurd is
spells_none t spot text left chunk piece status.ReadFault detail c is = absurd is
spells_none t spot text left chunk piece status.WriteFault detail c is = absurd is
spells_none t spot text left chunk piece status.Memory detail c is = absurd is
spells_none t spot text left chunk piece status.NotYet detail c is = absurd is

stop_of : (t : Target) (spot : DocStart) (text : List ℕ) (left : Option (List ℕ)) (chunk piece : List ℕ) (r : Refusal) → Cut text left chunk piece → IfBy (IsUnspelled t spot piece) r → IfBy (IsUnread t spot text left) r
stop_of t spot text left chunk piece (refusals.By s detail) c is = spells_none t spot text left chunk piece s detail c is
stop_of t spot text left chunk piece (refusals.Memory e) c is = tt

-- it spells none
pub reads_none : (t : Target) (spot : DocStart) (first : Option (List ℕ)) (chunk0 : List ℕ) (left : Option (List ℕ)) (chunk piece : List ℕ) (r : Refusal) → 0 < length piece → NoneWhole piece → Taken first chunk0 left chunk piece → Ended first chunk0 piece → IfBy (IsUnspelled t spot piece) r → IfSome first (λ l. IfBy (IsUnread t spot (chunk0 ++ l) left) r)
reads_none t spot first chunk0 left chunk piece r filled none taken end is =
    mapped (λ l. Cut (chunk0 ++ l) left chunk piece) (λ l. IfBy (IsUnread t spot (chunk0 ++ l) left) r)
    (λ l c. stop_of t spot (chunk0 ++ l) left chunk piece r c is)
    first (cut_of first chunk0 left chunk piece filled none taken end)

module _ (P : Function → Type 0) (t : Target) where
  -- the rest meets another fact
  reads_then : (A B : DocStart → List ℕ → Type 0) → ((s : DocStart) (x : List ℕ) → A s x → B s x) → (spot : DocStart) (text : List ℕ) (ds : List Doc) → Reads P t spot text ds A → Reads P t spot text ds B
  reads_then A B h spot text [] is = h spot text is
  reads_then A B h spot text (d ∷ ds) (piece, rest, cut, held, spelled, meets, more) = (piece, rest, cut, held, spelled, meets, reads_then A B h (after spot piece) rest ds more)

  -- the rest begins with one more document
  reads_more : (A : DocStart → List ℕ → Type 0) (d : Doc) (spot : DocStart) (text : List ℕ) (ds : List Doc) → Reads P t spot text ds (λ s x. Reads P t s x (d ∷ []) A) → Reads P t spot text (ds ++ d ∷ []) A
  reads_more A d spot text [] is = is
  reads_more A d spot text (e ∷ ds) (piece, rest, cut, held, spelled, meets, more) = (piece, rest, cut, held, spelled, meets, reads_more A d (after spot piece) rest ds more)

  -- how far a file is read: the spot, the chunk and the rest behind it, and the functions so far
  pub record ReadSoFar (file : List ℕ) (spot : DocStart) (chunk : List ℕ) (left : Option (List ℕ)) (fs : List Function) : Type 0 where
    pub documents : List Doc
    pub rest : List ℕ
    pub left_is : left ≡ Some rest
    pub reads : Reads P t first_spot file documents (λ s x. (s ≡ spot) × (x ≡ chunk ++ rest))
    pub functions : fs ≡ functions_of documents

  -- the same, where the file is told
  abbrev pub IsReadSoFar : Option (List ℕ) → DocStart → List ℕ → Option (List ℕ) → List Function → Type 0
  IsReadSoFar first spot chunk left fs = IfSome first (λ file. ReadSoFar file spot chunk left fs)

  -- a file is begun
  pub begun : (first : Option (List ℕ)) (spot : DocStart) (chunk : List ℕ) (left : Option (List ℕ)) (fs : List Function) → IfSome first (λ bytes. left ≡ Some bytes) → spot ≡ first_spot → chunk ≡ [] → fs ≡ [] → IsReadSoFar first spot chunk left fs
  begun None spot chunk left fs is s c f = tt
  begun (Some file) spot chunk left fs is s c f = record { documents = []; rest = file; left_is = is; reads = (sym s, ap (λ x. x ++ file) (sym c)); functions = f }

  ended : (A : DocStart → List ℕ → Type 0) (file : List ℕ) (spot : DocStart) (chunk : List ℕ) (left : Option (List ℕ)) (fs : List Function) → (r : ReadSoFar file spot chunk left fs) → A spot (chunk ++ r.rest) → Reads P t first_spot file r.documents A
  ended A file spot chunk left fs r is = reads_then _ A (λ s x at. subst (λ y. A s y) (sym at.1) (subst (λ z. A z (chunk ++ r.rest)) (sym at.0) is)) first_spot file r.documents r.reads

  goes : (file : List ℕ) (spot next : DocStart) (chunk now_chunk : List ℕ) (left now_left : Option (List ℕ)) (fs new : List Function) (d : Doc) → (r : ReadSoFar file spot chunk left fs) → Behind t spot next (chunk ++ r.rest) now_left now_chunk d → IfFunction P d → new ≡ fs ++ function_of d → ReadSoFar file next now_chunk now_left new
  goes file spot next chunk now_chunk left now_left fs new d r b meets e =
      let End : DocStart → List ℕ → Type 0 = λ s x. (s ≡ next) × (x ≡ now_chunk ++ b.rest) in
      record {
        documents = r.documents ++ d ∷ [];
        rest = b.rest;
        left_is = b.left_is;
        reads = reads_more End d first_spot file r.documents (ended (λ s x. Reads P t s x (d ∷ []) End) file spot chunk left fs r (b.piece, now_chunk ++ b.rest, b.cut, b.held, b.spelled, meets, (sym b.next_is, refl)));
        functions = e ∙ ap (λ x. x ++ function_of d) r.functions ∙ ap (λ x. functions_of r.documents ++ x) (sym (append-nil (function_of d))) ∙ sym (flat_map-append function_of r.documents (d ∷ []));
      }

  -- one more document is read
  pub goes_on : (first : Option (List ℕ)) (spot next : DocStart) (chunk now_chunk : List ℕ) (left now_left : Option (List ℕ)) (fs new : List Function) (d : Doc) → IsReadSoFar first spot chunk left fs → IfSome left (λ l. Behind t spot next (chunk ++ l) now_left now_chunk d) → IfFunction P d → new ≡ fs ++ function_of d → IsReadSoFar first next now_chunk now_left new
  goes_on None spot next chunk now_chunk left now_left fs new d r b meets e = tt
  goes_on (Some file) spot next chunk now_chunk left now_left fs new d r b meets e =
      goes file spot next chunk now_chunk left now_left fs new d r (subst (λ o. IfSome o (λ l. Behind t spot next (chunk ++ l) now_left now_chunk d)) r.left_is b) meets e

  -- the file ends
  pub over : (first : Option (List ℕ)) (spot : DocStart) (chunk : List ℕ) (left : Option (List ℕ)) (fs : List Function) → IsReadSoFar first spot chunk left fs → IfSome left (λ l. chunk ++ l ≡ []) → IfSome first (λ file. IsRead P t file fs)
  over None spot chunk left fs r e = tt
  over (Some file) spot chunk left fs r e = record {
    documents = r.documents;
    reads = ended (λ s x. x ≡ []) file spot chunk left fs r (subst (λ o. IfSome o (λ l. chunk ++ l ≡ [])) r.left_is e);
    functions = r.functions;
  }

  module _ (R : Function → Status → List ℕ → Type 0) where
    none_spelled : (left : Option (List ℕ)) (spot : DocStart) (text : List ℕ) (s : Status) (detail : List ℕ) → SpellsNone t spot text s detail → IsRefused R t spot text s detail
    none_spelled left spot text s detail is = record { piece = is.piece; rest = is.rest; cut = is.cut; held = is.held; refused = inl is.unspelled }

    unread_breaks : (left : Option (List ℕ)) (s : Status) (detail : List ℕ) (spot : DocStart) (text : List ℕ) → IsUnread t spot text left s detail → Breaks R t left s detail spot text
    unread_breaks left status.ReadFault detail spot text is = is
    unread_breaks left status.Memory detail spot text is = tt
    unread_breaks left status.Done detail spot text is = none_spelled left spot text status.Done detail is
    unread_breaks left status.Usage detail spot text is = none_spelled left spot text status.Usage detail is
    unread_breaks left (status.Target f) detail spot text is = none_spelled left spot text (status.Target f) detail is
    unread_breaks left (status.Text f) detail spot text is = none_spelled left spot text (status.Text f) detail is
    unread_breaks left (status.Limit l) detail spot text is = none_spelled left spot text (status.Limit l) detail is
    unread_breaks left (status.Invalid x) detail spot text is = none_spelled left spot text (status.Invalid x) detail is
    unread_breaks left (status.Unassignable p) detail spot text is = none_spelled left spot text (status.Unassignable p) detail is
    unread_breaks left status.WriteFault detail spot text is = none_spelled left spot text status.WriteFault detail is
    unread_breaks left status.NotYet detail spot text is = none_spelled left spot text status.NotYet detail is

    by_breaks : (now_left : Option (List ℕ)) (file : List ℕ) (spot : DocStart) (chunk : List ℕ) (left : Option (List ℕ)) (fs : List Function) (x : Refusal) → (r : ReadSoFar file spot chunk left fs) → IfBy (λ s detail. Breaks R t now_left s detail spot (chunk ++ r.rest)) x → IfBy (λ s detail. IsBroken P R t file now_left s detail) x
    by_breaks now_left file spot chunk left fs (refusals.By s detail) r is = record { documents = r.documents; reads = ended (Breaks R t now_left s detail) file spot chunk left fs r is }
    by_breaks now_left file spot chunk left fs (refusals.Memory e) r is = tt

    unread_by : (left : Option (List ℕ)) (spot : DocStart) (text : List ℕ) (x : Refusal) → IfBy (IsUnread t spot text left) x → IfBy (λ s detail. Breaks R t left s detail spot text) x
    unread_by left spot text (refusals.By s detail) is = unread_breaks left s detail spot text is
    unread_by left spot text (refusals.Memory e) is = tt

    told_by : (first : Option (List ℕ)) (left : Option (List ℕ)) (x : Refusal) → IfSome first (λ file. IfBy (λ s detail. IsBroken P R t file left s detail) x) → IfBy (λ s detail. IfSome first (λ file. IsBroken P R t file left s detail)) x
    told_by first left (refusals.By s detail) is = is
    told_by first left (refusals.Memory e) is = tt

    -- there is no next document
    pub breaks : (first : Option (List ℕ)) (spot : DocStart) (chunk : List ℕ) (left now_left : Option (List ℕ)) (fs : List Function) (x : Refusal) → IsReadSoFar first spot chunk left fs → IfSome left (λ l. IfBy (IsUnread t spot (chunk ++ l) now_left) x) → IfBy (λ s detail. IfSome first (λ file. IsBroken P R t file now_left s detail)) x
    breaks None spot chunk left now_left fs x r is = told_by None now_left x tt
    breaks (Some file) spot chunk left now_left fs x r is =
        told_by (Some file) now_left x (by_breaks now_left file spot chunk left fs x r (unread_by now_left spot (chunk ++ r.rest) x (subst (λ o. IfSome o (λ l. IfBy (IsUnread t spot (chunk ++ l) now_left) x)) r.left_is is)))

    cut_at_start : (file : List ℕ) (left : Option (List ℕ)) → left ≡ Some file → IsUnfinished file left
    cut_at_start file left is = record { piece = []; rest = file; cut = refl; left_is = is; none = none_of_nothing; open_yet = nothing_whole }

    unbegun_by : (file : List ℕ) (left : Option (List ℕ)) (x : Refusal) → left ≡ Some file → IfUnbegun x → IfBy (λ s detail. IsBroken P R t file left s detail) x
    unbegun_by file left (refusals.By s detail) is e = subst (λ z. IsBroken P R t file left z detail) (sym e) (record { documents = []; reads = cut_at_start file left is })
    unbegun_by file left (refusals.Memory e) is u = tt

    -- the file couldn't be begun
    pub unbegun : (first left : Option (List ℕ)) (x : Refusal) → IfSome first (λ bytes. left ≡ Some bytes) → IfUnbegun x → IfBy (λ s detail. IfSome first (λ file. IsBroken P R t file left s detail)) x
    unbegun None left x is e = told_by None left x tt
    unbegun (Some file) left x is e = told_by (Some file) left x (unbegun_by file left x is e)

    function_refused : (spot next : DocStart) (text : List ℕ) (left : Option (List ℕ)) (chunk : List ℕ) (d : Doc) (s : Status) (detail : List ℕ) → Behind t spot next text left chunk d → RefusesFunction R d s detail → IsRefused R t spot text s detail
    function_refused spot next text left chunk d s detail b is = record { piece = b.piece; rest = chunk ++ b.rest; cut = b.cut; held = b.held; refused = inr (record { doc = d; spelled = b.spelled; refused = is }) }

    module _ (never : (f : Function) (detail : List ℕ) → R f status.ReadFault detail → ⊥) where
      never_doc : (d : Doc) (detail : List ℕ) → RefusesFunction R d status.ReadFault detail → ⊥
      never_doc (docs.Function before f) detail is = never f detail is
      never_doc (docs.Ir lines) detail is = is
      never_doc (docs.Rest lines) detail is = is

      refused_breaks : (spot next : DocStart) (text : List ℕ) (left : Option (List ℕ)) (chunk : List ℕ) (d : Doc) (s : Status) (detail : List ℕ) → Behind t spot next text left chunk d → RefusesFunction R d s detail → Breaks R t left s detail spot text
      refused_breaks spot next text left chunk d status.ReadFault detail b is = absurd (never_doc d detail is)
      refused_breaks spot next text left chunk d status.Memory detail b is = tt
      refused_breaks spot next text left chunk d status.Done detail b is = function_refused spot next text left chunk d status.Done detail b is
      refused_breaks spot next text left chunk d status.Usage detail b is = function_refused spot next text left chunk d status.Usage detail b is
      refused_breaks spot next text left chunk d (status.Target f) detail b is = function_refused spot next text left chunk d (status.Target f) detail b is
      refused_breaks spot next text left chunk d (status.Text f) detail b is = function_refused spot next text left chunk d (status.Text f) detail b is
      refused_breaks spot next text left chunk d (status.Limit l) detail b is = function_refused spot next text left chunk d (status.Limit l) detail b is
      refused_breaks spot next text left chunk d (status.Invalid x) detail b is = function_refused spot next text left chunk d (status.Invalid x) detail b is
      refused_breaks spot next text left chunk d (status.Unassignable p) detail b is = function_refused spot next text left chunk d (status.Unassignable p) detail b is
      refused_breaks spot next text left chunk d status.WriteFault detail b is = function_refused spot next text left chunk d status.WriteFault detail b is
      refused_breaks spot next text left chunk d status.NotYet detail b is = function_refused spot next text left chunk d status.NotYet detail b is

      refused_by : (spot next : DocStart) (text : List ℕ) (left : Option (List ℕ)) (chunk : List ℕ) (d : Doc) (x : Refusal) → Behind t spot next text left chunk d → IfBy (RefusesFunction R d) x → IfBy (λ s detail. Breaks R t left s detail spot text) x
      refused_by spot next text left chunk d (refusals.By s detail) b is = refused_breaks spot next text left chunk d s detail b is
      refused_by spot next text left chunk d (refusals.Memory e) b is = tt

      -- the function of the next document is refused
      pub refuses : (first : Option (List ℕ)) (spot next : DocStart) (chunk now_chunk : List ℕ) (left now_left : Option (List ℕ)) (fs : List Function) (d : Doc) (x : Refusal) → IsReadSoFar first spot chunk left fs → IfSome left (λ l. Behind t spot next (chunk ++ l) now_left now_chunk d) → IfBy (RefusesFunction R d) x → IfBy (λ s detail. IfSome first (λ file. IsBroken P R t file now_left s detail)) x
      refuses None spot next chunk now_chunk left now_left fs d x r b is = told_by None now_left x tt
      refuses (Some file) spot next chunk now_chunk left now_left fs d x r b is =
          told_by (Some file) now_left x (by_breaks now_left file spot chunk left fs x r (refused_by spot next (chunk ++ r.rest) now_left now_chunk d x (subst (λ o. IfSome o (λ l. Behind t spot next (chunk ++ l) now_left now_chunk d)) r.left_is b) is))

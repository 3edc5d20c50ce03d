-- The types that the walks pass, read and write: how each is spelt in memory, that a value of it is of its MIR type,
-- and that its relation makes what it owns.
use Rattle.std.specs.Prelude.{refl, ℕ, [], ◌∷◌, T, Result}
use seplogic.Ra.Ura.{Ura}
use mir.Syntax.{Ty, w64, ty_int}
use mir.Val.{Val, vbool, vint, WT, has_ty}
use types.Logic.{Logic}
use denote.RattleType.{RowLaws}
use Rattle.std.specs.Borrow.{RattleType, bool, usize}
use denote.Copied.{Copied}
use denote.Laws.{Is, Makes, Copy}
use denote.Plain.{bool_Tells, uint_Tells}
use denote.Struct.Declared.{shape}
use denote.Struct.Struct.{Struct-row_laws}
use denote.Struct.Laws as LL
use denote.Enum.Declared as ED
use denote.Enum.Declared.{shape as enum_shape}
use denote.Enum.Enum.{layout}
use denote.Enum.Laws as EL
use denote.Param.Laws.{of_field, field_told}
use denote.Param.Shared.{copy_shared}
use denote.Struct.Field.{u64-field}
use denote.Struct.Laws.{u64-laws, u64-copy, u64-plain}
use Rattle.lent.specs.Callees.{Spelt}
use Rattle.lent.specs.Entries.{Element}
use Rattle.rules.specs.declared.Entry.{Entry}
use Rattle.rules.specs.contracts.Entry as E
use Rattle.rules.proofs.Entry.TheLaws as E'
use Rattle.std.specs.contracts.result.Result as L
use Rattle.std.proofs.result.Result.TheLaws as L'
use Rattle.rules.specs.contracts.Refusal as F
use Rattle.rules.proofs.Refusal.TheLaws as F'
use Rattle.rules.specs.declared.Refusal.{Refusal}

-- the bytes of an entry, which lie one entry from the next
abbrev pub entry_bytes : ℕ
entry_bytes = 64

abbrev pub word : Ty
word = ty_int w64

-- a count or an index, in a word
abbrev pub count : ℕ → Val
count k = vint w64 k

abbrev pub counts : Spelt usize
counts = record { val = count; tells = uint_Tells w64 }

abbrev pub truths : Spelt bool
truths = record { val = vbool; tells = bool_Tells }

-- ---- an entry
abbrev pub EntryRow : RattleType
EntryRow = E.the_row

abbrev pub EntryTy : Ty
EntryTy = E'.mir

abbrev pub entry : Entry → Val
entry e = LL.val E.the_type E'.the_laws e

abbrev pub entries : Spelt EntryRow
entries = record { val = entry; tells = LL.tells E.the_type E'.the_laws }

abbrev pub entry_element : Element EntryRow
entry_element = record { spelt = entries; τ = EntryTy; one = λ q v b o. refl }

-- ---- an answer about a list
abbrev pub Listed : ED.Declared
Listed = L.the_type u64-field.row F.the_row

abbrev pub ListedRow : RattleType
ListedRow = L.the_row u64-field.row F.the_row

abbrev pub listed_laws : EL.Laws Listed
listed_laws =
    L'.the_laws u64-field.row F.the_row (of_field u64-field u64-laws refl (copy_shared u64-field u64-copy)) F'.the_row_laws
    (field_told u64-field u64-laws) F'.the_told

abbrev pub ListedTy : Ty
ListedTy = layout (enum_shape Listed)

abbrev pub listeds : Spelt ListedRow
listeds = record { val = EL.val Listed listed_laws; tells = EL.tells Listed listed_laws }

-- the laws of the row of entries, which today's record of a row doesn't hold
pub entry_laws : RowLaws EntryRow
entry_laws x b o =
    Struct-row_laws (shape E.the_type) (LL.copy_row_laws (E.the_type).parts E'.the_copy) ((E.the_type).to x) b o

module _ {M : Type 1} {𝓤 : Ura M} (𝓛 : Logic 𝓤) where
  pub entry_made : Makes 𝓛 EntryRow (Is EntryRow)
  entry_made = LL.makes E.the_type E'.the_plain 𝓛

  pub entry_copied : Copy 𝓛 EntryRow
  entry_copied = LL.copy E.the_type E'.the_copy 𝓛

  -- and a share of an entry in memory is cut, joined and looked into
  pub entry_shared : Copied 𝓛 EntryRow
  entry_shared = LL.copied E.the_type E'.the_copy 𝓛

  pub listed_made : Makes 𝓛 ListedRow (Is ListedRow)
  listed_made = EL.makes Listed (L'.the_plain u64-field.row F.the_row u64-plain F'.the_row_plain) 𝓛

  pub entry_typed : (e : Entry) (v : Val) → Is EntryRow e (v ∷ []) → T (has_ty EntryTy v) × WT v
  entry_typed e v is = ((LL.lawful E.the_type E'.the_laws 𝓛).typed e (v ∷ []) is).0

  pub listed_typed : (r : Result ℕ Refusal) (v : Val) → Is ListedRow r (v ∷ []) → T (has_ty ListedTy v) × WT v
  listed_typed r v is = ((EL.lawful Listed listed_laws 𝓛 tt).typed r (v ∷ []) is).0

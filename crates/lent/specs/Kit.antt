-- What a walk takes from the kit, by one name.
-- resources
pub use base.Fraction.{full_share}
pub use seplogic.Ra.Ura.{Ura}
-- MIR and its values
pub use mir.Syntax.{Ty, named, mut, imm, w64, ty_int, ty_bool, ty_ptr, ty_ref, Fn, local, value_local, erased, w32}
pub use mir.Val.{Val, vbool, vint, of_z, vptr, WT, has_ty}
-- assertions and formulas
pub use base.Fml.{Lft, Share, GName, ftrue, flft, fsep}
pub use base.Logic.{SProp, ent, sep, emp, id⊢}
-- what code does
pub use prog.Memory.{Memory}
pub use prog.Routine.{Routine}
pub use prog.Wp.{Heap, Out, Env, after_seq, after_block, Calls, Loops, Wp, at_return, WpFn, Tables}
-- ghost state
pub use ghost.Atoms.{Atoms}
pub use Rattle.std.specs.Borrow.{sem}
-- contracts and routines
pub use contract.Monad.{Fun, fact_i}
pub use contract.Running.{tables}
-- the calculus, and the rules of the code
pub use types.Kit.{Item, Sq, runs, ‵, ◌⊛◌, ⋆, any_q, at_ret, ◌$◌, ◌∵◌, !, qed, by, move, keep, split, join}
pub use types.Kit.{rewrite, fsplit, fjoin, suffices, frame, done, drop}
pub use types.Part.{whole, sub, look_in, agg}
pub use types.Run.{look, init, forget, stop, hop, fld, from, load, lit, of_opd, bin, and_then, no_more, assigns, stays}
pub use types.Run.{leaves_loop, returns, enter, params1, pass1, pass0, exec, first, blocks, loops, again, Below}
pub use types.Run.{false_lit, addr}
-- laws of the tables
pub use sound.WpLaws.{FmC, fm_of}
-- types, slices, contracts of typed functions
pub use Rattle.std.specs.Borrow.{u8, usize, i64, bool, i32, Bor, MutBor}
pub use denote.Exit.{yes}
pub use denote.Index.{row}
pub use denote.Laws.{Is, Ises, Are}
pub use denote.Memory.{pointee}
pub use denote.Plain.{uint_Makes, bool_Makes}
pub use denote.RattleType.{RattleType, owns}
pub use denote.Signature.{plain, shr_slice_of}
pub use denote.Signed.{sint_Makes, sint_Tells, sint_vals, sint_Lawful}
pub use denote.Slice.{slice_ty, slice_val, MutSlice, ShrSlice, Room, shr_slice_vals, mut_slice_vals, mut_slice_Tells, shr_slice_Tells}
pub use denote.Slice.{finally}
pub use denote.Steps.{only, owned, nothing}
pub use denote.Triple.Entry.{on_entry}
pub use denote.Triple.Spec.{Meets, triple_of}
pub use denote.Triple.Statement.{Contract, Triple}
pub use denote.Triple.Table.{entered, cited}
pub use denote.Triple.Walked.{says, Stays, stay_slice, stay_none_slice, walk_of, Goes-slice, Goes-none_slice, ends_at}
pub use denote.Triple.Walked.{stay_none, Goes-none, stay_dropped, gave_slice, Goes-dropped, Goes-gave_slice, Stay, Goes}

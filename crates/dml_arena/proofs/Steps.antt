-- The names that the proofs of this crate cite, passed on from one place.
pub use Rattle.std.proofs.Common.{◌≡◌, ℕ, zero, suc, ◌+◌, ◌-◌, ◌*◌, ◌^◌, ◌<◌, ◌≤◌, List, [], ◌∷◌, ◌++◌, refl, sym, ap, subst, ◌∙◌, arith, lit<, w8, w64, Some, None}
pub use lib.Dec.{T as Holds}
pub use lib.ListN.{length, length-append, take}
pub use seplogic.Ra.Ura.{Ura}
pub use base.Fraction.{full_share}
pub use base.Logic.{SProp, ent, sep, emp, never, id⊢}
pub use base.Fml.{Lft, GName, Share, Fml, Incl, Incl-refl, Incl-trans, ftrue, fsep, froom, fobs, fbor, fobor, flft, feq}
pub use contract.BorrowLft.{meet_⊑_left, meet_⊑_right, ⊑_meet}
pub use contract.Monad.{fact, fact_i}
pub use types.Logic.{Logic, sem, lfts}
pub use types.SemTy.{Body}
pub use types.Kit.{Item, Goal, Seq, prop, at_ret, ‵, raw, ◌⊛◌, some, given, later, ◌$◌, ◌∵◌, !, qed, by, move, keep, drop, use0, use1, use2, use3, split, split3, join, pick, learn, fsplit, fsplit3, fjoin, fjoin3, fpick, fpack, feq_i, feq_l, rewrite, regoal, suffices, group, await, updating, now, done}
pub use ghost.Rules.{span}
pub use denote.RattleType.{RattleType}
pub use denote.RawPtr.{Ptr, block_ptr, null_ptr, block_of, count_of}
pub use denote.RawPtr.Bytes.{bytes}
pub use mir.Syntax.{Ty, Fn, Args, a_type, dcons, dnil, ty_int, ty_unit, named}
pub use mir.Val.{Val, vint, vptr, vunit, vstruct, vcons, vnil, has_ty, WT}
pub use mir.MapTy.{inst_fn}
pub use prog.Capped.{capped_is}
pub use prog.Wp.{Env, WpFn}
pub use contract.BorrowLft.{◌⊑◌, ⊑_trans}
pub use contract.Running.{tables}
pub use types.Part.{whole, sub, agg, look_in}
pub use types.Match.{live, vrt, in_variant}
pub use types.Run.{stop, fld, lit, unit_lit, of_opd, bin, load, look, no_more, and_then, first, blocks, switches_on, exec, returns, enter}
pub use types.ByLocal.{alloc_all, pass_all, free_all, look_at, get, get_in, get_tag, through, is, sets, sets_last, lands_as, lands_last, env}
pub use denote.RattleType.{owns}
pub use denote.RawPtr.{RawPtr, ptr_val, in_a_block}
pub use denote.Param.{param, bounded}
pub use denote.Signature.{plain, types_at, type_at, named_lft}
pub use denote.Steps.{nothing, heard, opens, closes}
pub use denote.Struct.Tuple.{Tuple}
pub use denote.Builtin.{u8, usize}
pub use denote.Plain.{uint_vals, uint_Tells}
pub use denote.Ref.{mut_vals, mut_Tells}
pub use types.Mut.{open_ref, close_ref}
pub use denote.Triple.Entry.{alive}
pub use denote.Triple.Call.{calls_at, calls_at_last}
pub use denote.Triple.Walked.{Stays, stay_dropped, stay_ref, walk_of, Goes-dropped, Goes-ref, Goes-spent_ref}
pub use Rattle.std.proofs.raw_atomic.Walks.{proved, proved_at, leaves}
pub use Rattle.core.proofs.alloc.Calls.{Goes-blank}
pub use Rattle.core.proofs.alloc.Shapes.{after, head, arm_body}
pub use Rattle.core.proofs.atomic.Steps.{fm}

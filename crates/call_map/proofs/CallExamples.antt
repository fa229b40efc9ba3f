-- The nets of two small programs, computed, beside the rules that an independent model of the compiler made; and that the
-- laws speak of the first of them.
use Rattle.std.proofs.Common.{◌≡◌, ℕ, zero, suc, ◌<◌, false, List, [], ◌∷◌, inl, inr, refl, arith}
use Rattle.std.specs.Prelude.{replicate, codes}
use Rattle.std.proofs.lemmas.List.Elements.{All-nil, All-cons}
use Rattle.chp_base.specs.declared.channel.Kind.TheVariants.{Out}
use Rattle.prs_core.specs.Nets.{NodeRules}
use Rattle.chp_syntax.specs.declared.tree.Op.TheVariants.{Add, Eq, Ne}
use Rattle.width_check.specs.Processes.{Formula, Process, constant, reading, chained, compared, no_operations, and_operation, skipping, assigning, sending, in_turn, no_members, and_member}
use Rattle.width_check.specs.Typing.{IsProcess, IsDeclaredChannel, IsDeclaredVar}
use Rattle.width_check.specs.Sharing.{Occurrence, Parallel}
use Rattle.net_compose.specs.Carries.{Carries}
use Rattle.net_compose.specs.Points.{IsTranslated}
use Rattle.net_compose.proofs.Examples.{at, channel, var, hi, lo, all, turns, no_rules, high_first}
use Rattle.call_map.specs.Calling.{Called, calling, turned, abreast, chosen, looped, no_calleds, and_called, no_called, or_called}
use Rattle.chp_meaning.specs.Halves.{ReadsNoTarget}
use Rattle.call_map.specs.CallsApart.{Calls}
use Rattle.call_map.specs.CallNet.{CallProgram, inlined_program, body_at, call_rules, call_firsts, call_net, IsCallProgram, SharedBodiesCarry}

-- `out X : 1; proc p = X!1; begin call p; call p; call p end`
abbrev thrice : CallProgram
thrice = record {
  channels = record { name = codes "X"; kind = Out; width = 1 } ∷ [];
  vars = [];
  procs = sending 0 at (constant 1 1) ∷ [];
  body = turned (and_called (calling 0) (and_called (calling 0) (and_called (calling 0) no_calleds)));
}

abbrev thrice_rows : List NodeRules
thrice_rows =
    no_rules
    ∷ turns (all (hi 10 ∷ lo 19 ∷ [])) (all (lo 10 ∷ []))
    ∷ turns (all (hi 7 ∷ [])) (all (lo 7 ∷ []))
    ∷ turns (all (hi 8 ∷ [])) (all (lo 8 ∷ []))
    ∷ no_rules
    ∷ turns ((hi 11 ∷ []) ∷ (hi 15 ∷ []) ∷ (hi 17 ∷ []) ∷ []) (all (lo 11 ∷ lo 15 ∷ lo 17 ∷ []))
    ∷ turns (all (hi 5 ∷ hi 4 ∷ [])) (all (lo 4 ∷ []))
    ∷ turns (all (hi 5 ∷ [])) (all (lo 5 ∷ []))
    ∷ no_rules
    ∷ turns (all (hi 0 ∷ lo 10 ∷ [])) (all (hi 10 ∷ []))
    ∷ turns (all (hi 19 ∷ [])) (all (lo 0 ∷ []))
    ∷ turns (all (hi 9 ∷ lo 12 ∷ [])) (all (hi 12 ∷ []))
    ∷ turns (all (hi 14 ∷ [])) (all (lo 9 ∷ []))
    ∷ turns (all (hi 12 ∷ lo 14 ∷ [])) (all (lo 12 ∷ []))
    ∷ turns (all (hi 11 ∷ hi 6 ∷ [])) (all (lo 6 ∷ []))
    ∷ turns (all (hi 13 ∷ lo 16 ∷ [])) (all (hi 16 ∷ []))
    ∷ turns (all (hi 18 ∷ [])) (all (lo 13 ∷ []))
    ∷ turns (all (hi 16 ∷ lo 18 ∷ [])) (all (lo 16 ∷ []))
    ∷ turns (all (hi 15 ∷ hi 6 ∷ [])) (all (lo 6 ∷ []))
    ∷ turns (all (hi 17 ∷ hi 6 ∷ [])) (all (lo 6 ∷ []))
    ∷ []

thrice_rules : call_rules thrice ≡ thrice_rows
thrice_rules = refl

thrice_firsts : call_firsts thrice ≡ replicate 20 false
thrice_firsts = refl

-- Two procedures, one of which writes a variable that it reads, through a hidden one; calls in a sequence, in branches, in
-- a selection and in a loop: `out X : 2; var x : 2; proc p = (x := x + 1; X!x); proc s = skip;
-- begin call p; (call s || [x = 1 -> call p [] x != 1 -> *[call p]]) end`.
abbrev bits : Formula
bits = reading 0 1 0 at

-- x := x + 1, in two halves
abbrev increment : Process
increment = in_turn (and_member (assigning 1 at (chained bits (and_operation Add (constant 2 1) no_operations)))
    (and_member (assigning 0 at (reading 1 1 0 at)) no_members))

abbrev choice : Called
choice = chosen false (or_called (compared Eq bits (constant 2 1)) (calling 0)
    (or_called (compared Ne bits (constant 2 1)) (looped (calling 0)) no_called))

abbrev twice : CallProgram
twice = record {
  channels = channel Out 2 ∷ [];
  vars = var 2 0 ∷ var 2 0 ∷ [];
  procs = in_turn (and_member increment (and_member (sending 0 at bits) no_members)) ∷ skipping ∷ [];
  body = turned (and_called (calling 0) (and_called (abreast (and_called (calling 1) (and_called choice no_calleds))) no_calleds));
}

abbrev twice_rows : List NodeRules
twice_rows =
    no_rules
    ∷ turns (all (hi 64 ∷ lo 115 ∷ [])) (all (lo 64 ∷ []))
    ∷ turns (all (hi 57 ∷ [])) (all (lo 57 ∷ []))
    ∷ turns (all (hi 58 ∷ [])) (all (lo 58 ∷ []))
    ∷ turns (all (hi 59 ∷ [])) (all (lo 59 ∷ []))
    ∷ turns (all (hi 60 ∷ [])) (all (lo 60 ∷ []))
    ∷ no_rules
    ∷ turns (all (hi 9 ∷ lo 8 ∷ [])) (all (hi 10 ∷ []))
    ∷ turns (all (hi 10 ∷ lo 7 ∷ [])) (all (hi 9 ∷ []))
    ∷ turns (all (hi 52 ∷ [])) (all (lo 52 ∷ []))
    ∷ turns (all (hi 53 ∷ [])) (all (lo 53 ∷ []))
    ∷ turns ((hi 9 ∷ hi 7 ∷ []) ∷ (hi 10 ∷ hi 8 ∷ []) ∷ []) (all (lo 9 ∷ lo 10 ∷ []))
    ∷ turns (all (hi 14 ∷ lo 13 ∷ [])) (all (hi 15 ∷ []))
    ∷ turns (all (hi 15 ∷ lo 12 ∷ [])) (all (hi 14 ∷ []))
    ∷ turns (all (hi 54 ∷ [])) (all (lo 54 ∷ []))
    ∷ turns (all (hi 55 ∷ [])) (all (lo 55 ∷ []))
    ∷ turns ((hi 14 ∷ hi 12 ∷ []) ∷ (hi 15 ∷ hi 13 ∷ []) ∷ []) (all (lo 14 ∷ lo 15 ∷ []))
    ∷ turns (all (hi 11 ∷ hi 16 ∷ [])) (all (lo 11 ∷ lo 16 ∷ []))
    ∷ turns (all (hi 20 ∷ lo 19 ∷ [])) (all (hi 21 ∷ []))
    ∷ turns (all (hi 21 ∷ lo 18 ∷ [])) (all (hi 20 ∷ []))
    ∷ turns (all (hi 45 ∷ [])) (all (lo 45 ∷ []))
    ∷ turns (all (hi 46 ∷ [])) (all (lo 46 ∷ []))
    ∷ turns ((hi 20 ∷ hi 18 ∷ []) ∷ (hi 21 ∷ hi 19 ∷ []) ∷ []) (all (lo 20 ∷ lo 21 ∷ []))
    ∷ turns (all (hi 25 ∷ lo 24 ∷ [])) (all (hi 26 ∷ []))
    ∷ turns (all (hi 26 ∷ lo 23 ∷ [])) (all (hi 25 ∷ []))
    ∷ turns (all (hi 49 ∷ [])) (all (lo 49 ∷ []))
    ∷ turns (all (hi 50 ∷ [])) (all (lo 50 ∷ []))
    ∷ turns ((hi 25 ∷ hi 23 ∷ []) ∷ (hi 26 ∷ hi 24 ∷ []) ∷ []) (all (lo 25 ∷ lo 26 ∷ []))
    ∷ turns (all (hi 22 ∷ hi 27 ∷ [])) (all (lo 22 ∷ lo 27 ∷ []))
    ∷ turns ((hi 65 ∷ []) ∷ (hi 81 ∷ []) ∷ (hi 113 ∷ []) ∷ []) (all (lo 65 ∷ lo 81 ∷ lo 113 ∷ []))
    ∷ turns (all (hi 29 ∷ lo 31 ∷ [])) (all (hi 31 ∷ []))
    ∷ turns (all (hi 51 ∷ [])) (all (lo 29 ∷ []))
    ∷ turns (all (hi 31 ∷ lo 51 ∷ [])) (all (lo 31 ∷ []))
    ∷ turns (all (hi 30 ∷ lo 34 ∷ [])) (all (hi 34 ∷ []))
    ∷ turns (all (hi 36 ∷ [])) (all (lo 30 ∷ []))
    ∷ turns (all (hi 34 ∷ lo 36 ∷ [])) (all (lo 34 ∷ []))
    ∷ turns (all (hi 33 ∷ hi 28 ∷ [])) (all (lo 28 ∷ []))
    ∷ turns (all (hi 33 ∷ hi 7 ∷ [])) (all (lo 33 ∷ []))
    ∷ turns (all (hi 33 ∷ hi 8 ∷ [])) (all (lo 33 ∷ []))
    ∷ turns (all (hi 33 ∷ hi 12 ∷ [])) (all (lo 33 ∷ []))
    ∷ turns (all (hi 33 ∷ hi 13 ∷ [])) (all (lo 33 ∷ []))
    ∷ turns (all (hi 33 ∷ [])) (all (lo 33 ∷ []))
    ∷ no_rules
    ∷ no_rules
    ∷ turns (all (hi 33 ∷ [])) (all (lo 33 ∷ []))
    ∷ turns ((hi 37 ∷ hi 42 ∷ []) ∷ (hi 38 ∷ hi 41 ∷ []) ∷ []) (all (lo 37 ∷ lo 38 ∷ lo 41 ∷ lo 42 ∷ []))
    ∷ turns ((hi 38 ∷ hi 42 ∷ []) ∷ (hi 37 ∷ hi 41 ∷ []) ∷ []) (all (lo 37 ∷ lo 38 ∷ lo 41 ∷ lo 42 ∷ []))
    ∷ turns (all (hi 37 ∷ hi 41 ∷ [])) (all (lo 37 ∷ lo 38 ∷ lo 41 ∷ lo 42 ∷ []))
    ∷ turns ((hi 38 ∷ hi 42 ∷ []) ∷ (hi 37 ∷ hi 42 ∷ []) ∷ (hi 38 ∷ hi 41 ∷ []) ∷ []) (all (lo 37 ∷ lo 38 ∷ lo 41 ∷ lo 42 ∷ []))
    ∷ turns ((hi 39 ∷ hi 44 ∷ hi 48 ∷ []) ∷ (hi 40 ∷ hi 43 ∷ hi 48 ∷ []) ∷ (hi 40 ∷ hi 44 ∷ hi 47 ∷ []) ∷ (hi 39 ∷ hi 43 ∷ hi 47 ∷ []) ∷ [])
    (all (lo 39 ∷ lo 40 ∷ lo 43 ∷ lo 44 ∷ lo 47 ∷ lo 48 ∷ []))
    ∷ turns ((hi 40 ∷ hi 44 ∷ hi 48 ∷ []) ∷ (hi 39 ∷ hi 43 ∷ hi 48 ∷ []) ∷ (hi 39 ∷ hi 44 ∷ hi 47 ∷ []) ∷ (hi 40 ∷ hi 43 ∷ hi 47 ∷ []) ∷ [])
    (all (lo 39 ∷ lo 40 ∷ lo 43 ∷ lo 44 ∷ lo 47 ∷ lo 48 ∷ []))
    ∷ turns (all (hi 35 ∷ hi 17 ∷ [])) (all (lo 17 ∷ []))
    ∷ turns (all (hi 35 ∷ hi 18 ∷ [])) (all (lo 35 ∷ []))
    ∷ turns (all (hi 35 ∷ hi 19 ∷ [])) (all (lo 35 ∷ []))
    ∷ turns (all (hi 35 ∷ hi 23 ∷ [])) (all (lo 35 ∷ []))
    ∷ turns (all (hi 35 ∷ hi 24 ∷ [])) (all (lo 35 ∷ []))
    ∷ turns (all (hi 32 ∷ hi 6 ∷ [])) (all (lo 6 ∷ []))
    ∷ turns (all (hi 32 ∷ hi 7 ∷ [])) (all (lo 32 ∷ []))
    ∷ turns (all (hi 32 ∷ hi 8 ∷ [])) (all (lo 32 ∷ []))
    ∷ turns (all (hi 32 ∷ hi 12 ∷ [])) (all (lo 32 ∷ []))
    ∷ turns (all (hi 32 ∷ hi 13 ∷ [])) (all (lo 32 ∷ []))
    ∷ turns (all (hi 69 ∷ [])) (all (lo 69 ∷ []))
    ∷ turns (all (hi 61 ∷ [])) (all (lo 61 ∷ []))
    ∷ turns (all (hi 0 ∷ lo 64 ∷ [])) (all (hi 64 ∷ []))
    ∷ turns (all (hi 115 ∷ [])) (all (lo 0 ∷ []))
    ∷ turns (all (hi 63 ∷ lo 66 ∷ [])) (all (hi 66 ∷ []))
    ∷ turns (all (hi 68 ∷ [])) (all (lo 63 ∷ []))
    ∷ turns (all (hi 66 ∷ lo 68 ∷ [])) (all (lo 66 ∷ []))
    ∷ turns (all (hi 65 ∷ hi 56 ∷ [])) (all (lo 56 ∷ []))
    ∷ turns (all (hi 67 ∷ lo 70 ∷ [])) (all (hi 70 ∷ []))
    ∷ turns (all (hi 72 ∷ [])) (all (lo 67 ∷ []))
    ∷ turns (all (hi 70 ∷ lo 72 ∷ [])) (all (lo 70 ∷ []))
    ∷ turns (all (hi 69 ∷ hi 62 ∷ [])) (all (lo 62 ∷ []))
    ∷ turns (all (hi 67 ∷ lo 74 ∷ [])) (all (hi 74 ∷ []))
    ∷ turns (all (hi 76 ∷ [])) (all (lo 67 ∷ []))
    ∷ turns (all (hi 74 ∷ lo 76 ∷ [])) (all (lo 74 ∷ []))
    ∷ turns ((hi 111 ∷ []) ∷ (hi 112 ∷ []) ∷ []) (all (lo 78 ∷ lo 111 ∷ lo 112 ∷ []))
    ∷ turns (all (hi 73 ∷ lo 78 ∷ [])) (all (hi 78 ∷ []))
    ∷ turns ((hi 79 ∷ []) ∷ (hi 80 ∷ []) ∷ []) (all (lo 79 ∷ lo 80 ∷ []))
    ∷ turns (all (hi 95 ∷ hi 109 ∷ [])) (all (lo 73 ∷ []))
    ∷ turns (all (hi 96 ∷ hi 110 ∷ [])) (all (lo 73 ∷ []))
    ∷ turns (all (hi 79 ∷ lo 95 ∷ lo 96 ∷ lo 110 ∷ lo 109 ∷ [])) (all (lo 79 ∷ []))
    ∷ turns (all (hi 80 ∷ lo 95 ∷ lo 96 ∷ lo 110 ∷ lo 109 ∷ [])) (all (lo 80 ∷ []))
    ∷ turns (all (hi 77 ∷ hi 7 ∷ [])) (all (lo 77 ∷ []))
    ∷ turns (all (hi 77 ∷ hi 8 ∷ [])) (all (lo 77 ∷ []))
    ∷ turns (all (hi 77 ∷ hi 12 ∷ [])) (all (lo 77 ∷ []))
    ∷ turns (all (hi 77 ∷ hi 13 ∷ [])) (all (lo 77 ∷ []))
    ∷ turns (all (hi 77 ∷ [])) (all (lo 77 ∷ []))
    ∷ no_rules
    ∷ no_rules
    ∷ turns (all (hi 77 ∷ [])) (all (lo 77 ∷ []))
    ∷ turns ((hi 84 ∷ hi 88 ∷ []) ∷ (hi 83 ∷ hi 87 ∷ []) ∷ []) (all (lo 83 ∷ lo 84 ∷ lo 87 ∷ lo 88 ∷ []))
    ∷ turns ((hi 83 ∷ hi 88 ∷ []) ∷ (hi 84 ∷ hi 87 ∷ []) ∷ []) (all (lo 83 ∷ lo 84 ∷ lo 87 ∷ lo 88 ∷ []))
    ∷ turns ((hi 86 ∷ hi 90 ∷ []) ∷ (hi 85 ∷ hi 89 ∷ []) ∷ []) (all (lo 85 ∷ lo 86 ∷ lo 89 ∷ lo 90 ∷ []))
    ∷ turns ((hi 85 ∷ hi 90 ∷ []) ∷ (hi 86 ∷ hi 89 ∷ []) ∷ []) (all (lo 85 ∷ lo 86 ∷ lo 89 ∷ lo 90 ∷ []))
    ∷ turns (all (hi 91 ∷ hi 93 ∷ [])) (all (lo 91 ∷ lo 92 ∷ lo 93 ∷ lo 94 ∷ []))
    ∷ turns ((hi 92 ∷ hi 94 ∷ []) ∷ (hi 91 ∷ hi 94 ∷ []) ∷ (hi 92 ∷ hi 93 ∷ []) ∷ []) (all (lo 91 ∷ lo 92 ∷ lo 93 ∷ lo 94 ∷ []))
    ∷ turns (all (hi 77 ∷ hi 7 ∷ [])) (all (lo 77 ∷ []))
    ∷ turns (all (hi 77 ∷ hi 8 ∷ [])) (all (lo 77 ∷ []))
    ∷ turns (all (hi 77 ∷ hi 12 ∷ [])) (all (lo 77 ∷ []))
    ∷ turns (all (hi 77 ∷ hi 13 ∷ [])) (all (lo 77 ∷ []))
    ∷ turns (all (hi 77 ∷ [])) (all (lo 77 ∷ []))
    ∷ no_rules
    ∷ no_rules
    ∷ turns (all (hi 77 ∷ [])) (all (lo 77 ∷ []))
    ∷ turns ((hi 98 ∷ hi 102 ∷ []) ∷ (hi 97 ∷ hi 101 ∷ []) ∷ []) (all (lo 97 ∷ lo 98 ∷ lo 101 ∷ lo 102 ∷ []))
    ∷ turns ((hi 97 ∷ hi 102 ∷ []) ∷ (hi 98 ∷ hi 101 ∷ []) ∷ []) (all (lo 97 ∷ lo 98 ∷ lo 101 ∷ lo 102 ∷ []))
    ∷ turns ((hi 100 ∷ hi 104 ∷ []) ∷ (hi 99 ∷ hi 103 ∷ []) ∷ []) (all (lo 99 ∷ lo 100 ∷ lo 103 ∷ lo 104 ∷ []))
    ∷ turns ((hi 99 ∷ hi 104 ∷ []) ∷ (hi 100 ∷ hi 103 ∷ []) ∷ []) (all (lo 99 ∷ lo 100 ∷ lo 103 ∷ lo 104 ∷ []))
    ∷ turns (all (hi 105 ∷ hi 107 ∷ [])) (all (lo 105 ∷ lo 106 ∷ lo 107 ∷ lo 108 ∷ []))
    ∷ turns ((hi 106 ∷ hi 108 ∷ []) ∷ (hi 105 ∷ hi 108 ∷ []) ∷ (hi 106 ∷ hi 107 ∷ []) ∷ []) (all (lo 105 ∷ lo 106 ∷ lo 107 ∷ lo 108 ∷ []))
    ∷ turns (all (hi 81 ∷ hi 56 ∷ [])) (all (lo 56 ∷ []))
    ∷ no_rules
    ∷ turns (all (hi 82 ∷ lo 114 ∷ [])) (all (hi 114 ∷ []))
    ∷ turns (all (hi 113 ∷ hi 56 ∷ [])) (all (lo 56 ∷ []))
    ∷ turns (all (hi 71 ∷ hi 75 ∷ [])) (all (lo 71 ∷ lo 75 ∷ []))
    ∷ []

twice_rules : call_rules twice ≡ twice_rows
twice_rules = refl

twice_firsts : call_firsts twice ≡ high_first 116 (8 ∷ 13 ∷ 19 ∷ 24 ∷ [])
twice_firsts = refl

-- the first of them is a program of which the laws speak
thrice_declared : (q : ℕ) → Calls thrice.body q → q < 1
thrice_declared q (inl e) = omega (arith, e)
thrice_declared q (inr (inl e)) = omega (arith, e)
thrice_declared q (inr (inr (inl e))) = omega (arith, e)
thrice_declared q (inr (inr (inr h))) = absurd h

thrice_called : (q : ℕ) → q < 1 → Calls thrice.body q
thrice_called zero l = inl refl
thrice_called (suc q) l = absurd (omega (arith, l))

thrice_unread : (q : ℕ) → q < 1 → ReadsNoTarget (body_at thrice q)
thrice_unread zero l = tt
thrice_unread (suc q) l = absurd (omega (arith, l))

thrice_is : IsCallProgram thrice
thrice_is = record {
  atoms = (tt, (tt, (tt, tt)));
  declared = thrice_declared;
  called = thrice_called;
  apart = (tt, (tt, (tt, tt)));
  unread = thrice_unread;
}

send_typed : IsProcess thrice.channels thrice.vars (sending 0 at (constant 1 1))
send_typed = record {
  within = omega arith;
  direction = λ e. cc;
  sent = record { formed = (omega arith, omega arith, omega arith); reads = tt; agrees = refl };
}

none_parallel : (a b : Occurrence) → Parallel (inlined_program thrice).body a b → ⊥
none_parallel a b (inl h) = h
none_parallel a b (inr (inl h)) = h
none_parallel a b (inr (inr (inl h))) = h
none_parallel a b (inr (inr (inr h))) = h

thrice_translated : IsTranslated (inlined_program thrice)
thrice_translated = record {
  typed = record {
    each_channel = All-cons IsDeclaredChannel (record { name = codes "X"; kind = Out; width = 1 }) []
        (record { name = record { short = omega arith; first = refl; parts = refl; free = refl }; some = omega arith; most = omega arith })
        (All-nil IsDeclaredChannel);
    each_var = All-nil IsDeclaredVar;
    distinct = λ i j d less within. absurd (omega (arith, less, within));
    body_is = (omega arith, (send_typed, (send_typed, (send_typed, tt))));
  };
  sharing = record {
    variables = λ a b h. absurd (none_parallel a b h);
    sends = λ a b h. absurd (none_parallel a b h);
    receives = λ a b h. absurd (none_parallel a b h);
  };
}

thrice_carries : SharedBodiesCarry → (names : List (List ℕ)) → Carries (call_net thrice names) (inlined_program thrice)
thrice_carries law names = law thrice thrice_is thrice_translated names

-- The worked examples E1 to E14: posts, operands and missing values. Definitions only.
use Rattle.std.specs.Prelude.{true, false, [], ◌∷◌}
use Rattle.wire.specs.Bytes.{be}
use Rattle.numeric.specs.Post.{identity}
use Rattle.semantics.specs.Run as E
use Rattle.semantics.specs.Run.{argument, by_end, by_out}
use Rattle.semantics.specs.Example.{Example, example, trial, entry, hash_a, hash_b, hash_c, hash_x, hash_y, p21}

-- E1, This*1+-0: identity post with offset -0.0 logs slot 0's bits
abbrev pub E1 : Example
E1 =
    example
    (be 23 0x01000000120001_0000000c0c3f80000080000000000000 [])
    (be 25 0x010000004500000002_0400000000000000_3000000000000000
    (be 49 0x00000000_000000013f80000000000000_00000000_00000000_00000000_00000000_00000000_00000000_000000000000000101 []))
    (trial [] by_end 0
    (entry (E.e_this identity) 0 0 0 ∷ []) ∷ [])

-- E2, Semicolon*1+-0: a list's constant is its offset, as bits, not folded
abbrev pub E2 : Example
E2 =
    example
    (be 23 0x01000000120001_0000000c1c3f80000080000000000000 [])
    (be 25 0x010000004900000002_0100000000000000_3000000000000000
    (be 53 0x0000000180000000_000000013f80000000000000_00000000_00000000_00000000_00000000_00000000_00000000_000000000000000101 []))
    (trial [] by_end 0
    (entry (E.e_const 0x80000000) 0 0 0 ∷ []) ∷ [])

-- E3, Loop*1+-0(This, This): a Loop's constant is the fold of 0.0, so -0.0 is gone
abbrev pub E3 : Example
E3 =
    example
    (be 55 0x01000000320001_0000002c1d3f80000080000000000002_0000000c0c3f80000000000000000000_0000000c0c3f80000000000000000000 [])
    (be 65 0x010000007100000007_0400000000000000_2800000000050000_0400000000000000_2900000000020000_2a00000000000000_0100000000000000_3000000000000000
    (be 53 0x0000000100000000_000000013f80000000000000_00000000_00000000_00000000_00000000_00000000_00000000_000100010000004101 []))
    (trial (false ∷ []) by_end 1
    (entry (E.e_this identity) 0 0 0 ∷ entry E.e_loop_begin 0 0 0 ∷ entry (E.e_const 0) 0 0 0 ∷ []) ∷ [])

-- E4, Mul(This, Float 1): PushConst: two events, the second one operand higher
abbrev pub E4 : Example
E4 =
    example
    (be 59 0x01000000360001_00000030283f80000000000000000002_0000000c0c3f80000000000000000000_00000010073f80000000000000013f8000000000 [])
    (be 41 0x010000005900000004_0400000000000000_0e00000000000000_1300000000000000_3000000000000000
    (be 53 0x000000013f800000_000000013f80000000000000_00000000_00000000_00000000_00000000_00000000_00000000_000100000000000101 []))
    (trial [] by_end 0
    (entry (E.e_this identity) 0 0 0 ∷ entry E.e_push 0 0 0 ∷ entry (E.e_const 0x3f800000) 1 0 0 ∷ entry (E.e_mul identity) 1 0 0 ∷ []) ∷ [])

-- E5, Mul(This, QueryFunction#0.0(Float 1)): no fusing across a segment start
abbrev pub E5 : Example
E5 =
    example
    (be 58 0x01000000490001_00000043283f80000000000000000002_0000000c0c3f80000000000000000000_00000023113f800000000000000b0000000001
    (be 20 0x00000010073f80000000000000013f8000000000 []))
    (be 65 0x010000007a00000007_0400000000000000_0d00000000000000_2700000000000000_1300000000000000_3000000000000000_0100000000000000_3000000000000000
    (be 62 0x000000013f800000_000000013f80000000000000_00000000_00000000_00000000_00000000_00000000_00000001000000000100000005_000100000000010000 []))
    (trial (true ∷ []) by_end 1
    (entry (E.e_this identity) 0 0 0 ∷ entry E.e_push 0 0 0 ∷ entry (E.e_call 0 0 1 identity) 1 0 0 ∷ argument 0 ∷ entry (E.e_const 0x3f800000) 1 0 0
    ∷ entry (E.e_mul identity) 1 0 0 ∷ []) ∷ [])

-- E6, Div(EntityVariable=Entity:a, This): DivGuard's sub is the divisor setting; no: Div is skipped
abbrev pub E6 : Example
E6 =
    example
    (be 65 0x010000003c0001_00000036293f80000000000000000002_000000160d3f8000000000000004af63bd4c8601b7be01610000_0000000c0c3f80000000000000000000 [])
    (be 49 0x010000006800000005_0400000000000000_1401000000040000_0500000000000000_1500000000000000_3000000000000000
    (be 60 0x00000000_000000013f80000000000000_00000000_00000001af63bd4c8601b7be000161_00000000_00000000_00000000_00000000_000100000000000301 []))
    (trial (false ∷ []) by_end 1
    (entry (E.e_this identity) 0 0 0 ∷ entry (E.e_div_guard true) 0 0 0 ∷ [])
    ∷ trial (true ∷ true ∷ []) by_end 2
    (entry (E.e_this identity) 0 0 0 ∷ entry (E.e_div_guard true) 0 0 0 ∷ entry (E.e_load_var hash_a identity) 1 0 0
    ∷ entry (E.e_div identity) 1 0 0 ∷ []) ∷ [])

-- E7, LogicalOr*2+1(This, This): OrStep: yes goes on to the next operand
abbrev pub E7 : Example
E7 =
    example
    (be 55 0x01000000320001_0000002c19400000003f800000000002_0000000c0c3f80000000000000000000_0000000c0c3f80000000000000000000 [])
    (be 49 0x010000006500000005_0400000000000000_1d00000000040001_0400000000000000_1f00000000000001_3000000000000000
    (be 57 0x00000000_000000023f80000000000000400000003f800000_00000000_00000000_00000000_00000000_00000000_00000000_000000000000000101 []))
    (trial (true ∷ []) by_end 1
    (entry (E.e_this identity) 0 0 0 ∷ entry (E.e_or_step p21) 0 0 0 ∷ entry (E.e_this identity) 0 0 0 ∷ entry (E.e_or_last p21) 0 0 0 ∷ [])
    ∷ trial (false ∷ []) by_end 1
    (entry (E.e_this identity) 0 0 0 ∷ entry (E.e_or_step p21) 0 0 0 ∷ []) ∷ [])

-- E8, MemberAccessor=Member:y(MemberAccessor=Member:x(This)): each Member of a chain draws; missing inside goes on to the next
abbrev pub E8 : Example
E8 =
    example
    (be 59 0x01000000460001_00000040103f8000000000000006af63bd4c8601b7a601790001_00000026103f8000000000000006af63bd4c8601b7a701780001
    (be 16 0x0000000c0c3f80000000000000000000 []))
    (be 41 0x010000007500000004_0400000000000000_0900000000000000_0900000000010000_3000000000000000
    (be 64 0x00000000_000000013f80000000000000_00000000_00000000_00000000_00000002af63bd4c8601b7a700022e7800022e79af63bd4c8601b7a600022e7900022e79
    (be 17 0x00000000_00000000_000000000000001000 [])))
    (trial (false ∷ false ∷ []) by_end 2
    (entry (E.e_this identity) 0 0 0 ∷ entry (E.e_member hash_x identity) 0 0 0 ∷ entry (E.e_member hash_y identity) 0 0 0 ∷ [])
    ∷ trial (true ∷ true ∷ []) by_end 2
    (entry (E.e_this identity) 0 0 0 ∷ entry (E.e_member hash_x identity) 0 0 0 ∷ entry (E.e_member hash_y identity) 0 0 0 ∷ [])
    ∷ trial (false ∷ []) by_out 1
    (entry (E.e_this identity) 0 0 0 ∷ entry (E.e_member hash_x identity) 0 0 0 ∷ entry (E.e_member hash_y identity) 0 0 0 ∷ []) ∷ [])

-- E9, NullCoalescing(MemberAccessor=Member:y(MemberAccessor=Member:x(This)), This): chain in ??: the first missing leaves the chain
abbrev pub E9 : Example
E9 =
    example
    (be 49 0x01000000660001_000000601a3f80000000000000000002_00000040103f8000000000000006af63bd4c8601b7a601790001
    (be 58 0x00000026103f8000000000000006af63bd4c8601b7a701780001_0000000c0c3f80000000000000000000_0000000c0c3f80000000000000000000 []))
    (be 65 0x010000008d00000007_2300000000050000_0400000000000000_0900000000000000_0900000000010000_2400000000060000_0400000000000000_3000000000000000
    (be 64 0x00000000_000000013f80000000000000_00000000_00000000_00000000_00000002af63bd4c8601b7a700022e7800022e79af63bd4c8601b7a600022e7900022e79
    (be 17 0x00000000_00000000_000000000001001000 [])))
    (trial (false ∷ []) by_end 1
    (entry (E.e_this identity) 0 0 1 ∷ entry (E.e_member hash_x identity) 0 0 1 ∷ entry (E.e_this identity) 0 0 0 ∷ [])
    ∷ trial (true ∷ false ∷ []) by_end 2
    (entry (E.e_this identity) 0 0 1 ∷ entry (E.e_member hash_x identity) 0 0 1 ∷ entry (E.e_member hash_y identity) 0 0 1
    ∷ entry (E.e_this identity) 0 0 0 ∷ [])
    ∷ trial (true ∷ true ∷ []) by_end 2
    (entry (E.e_this identity) 0 0 1 ∷ entry (E.e_member hash_x identity) 0 0 1 ∷ entry (E.e_member hash_y identity) 0 0 1 ∷ []) ∷ [])

-- E10, Mul(This, EntityVariable=Entity:a): missing, no ??: goes on, counts kept
abbrev pub E10 : Example
E10 =
    example
    (be 65 0x010000003c0001_00000036283f80000000000000000002_0000000c0c3f80000000000000000000_000000160d3f8000000000000004af63bd4c8601b7be01610000 [])
    (be 49 0x010000006800000005_0400000000000000_0d00000000000000_0500000000000000_1300000000000000_3000000000000000
    (be 60 0x00000000_000000013f80000000000000_00000000_00000001af63bd4c8601b7be000161_00000000_00000000_00000000_00000000_000100000000000301 []))
    (trial (false ∷ []) by_end 1
    (entry (E.e_this identity) 0 0 0 ∷ entry E.e_push 0 0 0 ∷ entry (E.e_load_var hash_a identity) 1 0 0 ∷ entry (E.e_mul identity) 1 0 0 ∷ []) ∷ [])

-- E11, NullCoalescing(Loop(This, Mul(This, EntityVariable=Entity:a)), This): missing in ??: operands and loops cut, handler closed
abbrev pub E11 : Example
E11 =
    example
    (be 55 0x010000007c0001_000000761a3f80000000000000000002_000000561d3f80000000000000000002_0000000c0c3f80000000000000000000
    (be 58 0x00000036283f80000000000000000002_0000000c0c3f80000000000000000000_000000160d3f8000000000000004af63bd4c8601b7be01610000
    (be 16 0x0000000c0c3f80000000000000000000 [])))
    (be 65 0x01000000ac0000000d_23000000000b0000_0400000000000000_2800000000090000_0400000000000000_0d00000000000000_0500000000000000_1300000000000000
    (be 48 0x2900000000030000_2a00000000000000_0100000000000000_24000000000c0000_0400000000000000_3000000000000000
    (be 64 0x0000000100000000_000000013f80000000000000_00000000_00000001af63bd4c8601b7be000161_00000000_00000000_00000000_00000000_000200010001004301 [])))
    (trial (true ∷ false ∷ []) by_end 2
    (entry (E.e_this identity) 0 0 1 ∷ entry E.e_loop_begin 0 0 1 ∷ entry (E.e_this identity) 1 1 1 ∷ entry E.e_push 1 1 1
    ∷ entry (E.e_load_var hash_a identity) 2 1 1 ∷ entry (E.e_this identity) 0 0 0 ∷ []) ∷ [])

-- E12: missing in the second child goes to the outer ??, inner Post is not logged
-- NullCoalescing(NullCoalescing*2+1(EntityVariable=Entity:a, EntityVariable=Entity:b), EntityVariable=Entity:c)
abbrev pub E12 : Example
E12 =
    example
    (be 65 0x01000000700001_0000006a1a3f80000000000000000002_000000401a400000003f800000000002_000000160d3f8000000000000004af63bd4c8601b7be01610000
    (be 52 0x000000160d3f8000000000000004af63bd4c8601b7bd01620000_000000160d3f8000000000000004af63bd4c8601b7bc01630000 []))
    (be 65 0x01000000a600000009_2300000000070000_2300000000040000_0500000000000000_2400000000050000_0500000000010000_2200000000000001_2400000000080000
    (be 16 0x0500000000020000_3000000000000000
    (be 65 0x00000000_000000023f80000000000000400000003f800000_00000000_00000003af63bd4c8601b7be000161af63bd4c8601b7bd000162af63bd4c8601b7bc000163
    (be 25 0x00000000_00000000_00000000_00000000_000000000002000301 []))))
    (trial (false ∷ false ∷ []) by_out 2
    (entry (E.e_load_var hash_a identity) 0 0 2 ∷ entry (E.e_load_var hash_b identity) 0 0 1 ∷ entry (E.e_load_var hash_c identity) 0 0 0 ∷ [])
    ∷ trial (false ∷ true ∷ true ∷ []) by_end 2
    (entry (E.e_load_var hash_a identity) 0 0 2 ∷ entry (E.e_load_var hash_b identity) 0 0 1 ∷ entry (E.e_post p21) 0 0 1 ∷ []) ∷ [])

-- E13, NullCoalescing(QueryFunction#0.0(EntityVariable=Entity:a), This): missing in an argument does not see the caller's ??; the Call's own does
abbrev pub E13 : Example
E13 =
    example
    (be 42 0x010000004f0001_000000491a3f80000000000000000002_00000029113f800000000000000b0000000001
    (be 42 0x000000160d3f8000000000000004af63bd4c8601b7be01610000_0000000c0c3f80000000000000000000 []))
    (be 65 0x010000008100000007_2300000000030000_2700000000000000_2400000000040000_0400000000000000_3000000000000000_0500000000000000_3000000000000000
    (be 60 0x00000000_000000013f80000000000000_00000000_00000001af63bd4c8601b7be000161_00000000_00000000_00000000_00000001000000000100000005
    (be 9 0x000000000001010200 [])))
    (trial (false ∷ true ∷ []) by_end 2
    (entry (E.e_call 0 0 1 identity) 0 0 1 ∷ argument 0 ∷ entry (E.e_load_var hash_a identity) 0 0 1 ∷ [])
    ∷ trial (false ∷ false ∷ []) by_end 2
    (entry (E.e_call 0 0 1 identity) 0 0 1 ∷ argument 0 ∷ entry (E.e_load_var hash_a identity) 0 0 1 ∷ entry (E.e_this identity) 0 0 0 ∷ []) ∷ [])

-- E14: a ?? inside an argument, which is inside a ?? of the caller
-- NullCoalescing(QueryFunction#0.0(NullCoalescing(EntityVariable=Entity:a, EntityVariable=Entity:b)), EntityVariable=Entity:c)
abbrev pub E14 : Example
E14 =
    example
    (be 58 0x01000000830001_0000007d1a3f80000000000000000002_00000053113f800000000000000b0000000001_000000401a3f80000000000000000002
    (be 52 0x000000160d3f8000000000000004af63bd4c8601b7be01610000_000000160d3f8000000000000004af63bd4c8601b7bd01620000
    (be 26 0x000000160d3f8000000000000004af63bd4c8601b7bc01630000 [])))
    (be 65 0x01000000af0000000a_2300000000030000_2700000000000000_2400000000040000_0500000000020000_3000000000000000_2300000000080000_0500000000000000
    (be 24 0x2400000000090000_0500000000010000_3000000000000000
    (be 65 0x00000000_000000013f80000000000000_00000000_00000003af63bd4c8601b7be000161af63bd4c8601b7bd000162af63bd4c8601b7bc000163_00000000_00000000
    (be 26 0x00000000_00000001000000000100000005_000000000002010200 []))))
    (trial (false ∷ false ∷ true ∷ []) by_end 3
    (entry (E.e_call 0 0 1 identity) 0 0 1 ∷ argument 0 ∷ entry (E.e_load_var hash_a identity) 0 0 2 ∷ entry (E.e_load_var hash_b identity) 0 0 1 ∷ [])
    ∷ trial (false ∷ false ∷ false ∷ []) by_out 3
    (entry (E.e_call 0 0 1 identity) 0 0 1 ∷ argument 0 ∷ entry (E.e_load_var hash_a identity) 0 0 2 ∷ entry (E.e_load_var hash_b identity) 0 0 1
    ∷ entry (E.e_load_var hash_c identity) 0 0 0 ∷ []) ∷ [])

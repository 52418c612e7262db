-- The worked examples E40 to E49: each kind of event, with what it shows. Definitions only.
use Rattle.std.specs.Prelude.{true, false, [], ◌∷◌}
use Rattle.wire.specs.Bytes.{be}
use Rattle.numeric.specs.Post.{identity}
use Rattle.program.specs.Program.{root_var, root_temp, root_other}
use Rattle.semantics.specs.Run as E
use Rattle.semantics.specs.Run.{argument, by_end, by_out}
use Rattle.semantics.specs.Example.{Example, example, trial, entry, hash_a, hash_b, hash_c, hash_e, hash_t, hash_x, hash_y, p21, p32, p43, p54, p65}

-- E40: constants, hashes and resources: a plain constant reads a Hash's low 32 bits and is folded, a Float reads 0.0; no hash reads 0
-- Semicolon*2+5(StringLiteral=Hash:fedcba9876543210*2+1, StringLiteral*2+1, Geometry=Geometry:a, Material=Material:b, Texture=Texture:c,
--   Geometry=Texture:x*2+1, Material=Hash:0123456740400000, Float=Hash:0123456740400000, Pi=Hash:0123456740400000*2+1, Comma=Hash:fedcba9876543210,
--   LeftBrace=Entity:a*3+2)
abbrev pub E40 : Example
E40 =
    example
    (be 63 0x010000011c0001_000001161c4000000040a0000000000b_0000001408400000003f80000002fedcba98765432100000_0000000c08400000003f800000000000
    (be 52 0x00000016093f8000000000000008af63bd4c8601b7be01610000_000000160a3f8000000000000009af63bd4c8601b7bd01620000
    (be 52 0x000000160b3f800000000000000aaf63bd4c8601b7bc01630000_0000001609400000003f8000000aaf63bd4c8601b7a701780000
    (be 48 0x000000140a3f800000000000000201234567404000000000_00000014073f800000000000000201234567404000000000
    (be 48 0x000000142d400000003f8000000201234567404000000000_00000014333f8000000000000002fedcba98765432100000
    (be 26 0x000000162e404000004000000004af63bd4c8601b7be01610000 []))))))
    (be 65 0x01000000e10000000d_0200000000000000_0200000000010000_0300000000020000_0300000000030000_0300000000040000_0300000000050000_0300000000010000
    (be 48 0x0100000000000000_0100000000010000_0100000000020000_0100000000030000_0100000000040000_3000000000000000
    (be 36 0x000000050000000040e00000765432104000000040a00000_000000013f80000000000000
    (be 64 0x00000006fedcba98765432100000000000000000af63bd4c8601b7beaf63bd4c8601b7bdaf63bd4c8601b7bcaf63bd4c8601b7a7_00000000_00000000_00000000
    (be 17 0x00000000_00000000_000000000000000000 [])))))
    (trial [] by_end 0
    (entry (E.e_hash 0xfedcba9876543210) 0 0 0 ∷ entry (E.e_hash 0) 0 0 0 ∷ entry (E.e_resource hash_a) 0 0 0 ∷ entry (E.e_resource hash_b) 0 0 0
    ∷ entry (E.e_resource hash_c) 0 0 0 ∷ entry (E.e_resource hash_x) 0 0 0 ∷ entry (E.e_resource 0) 0 0 0 ∷ entry (E.e_const 0) 0 0 0
    ∷ entry (E.e_const 0x40e00000) 0 0 0 ∷ entry (E.e_const 0x76543210) 0 0 0 ∷ entry (E.e_const 0x40000000) 0 0 0 ∷ entry (E.e_const 0x40a00000) 0 0 0
    ∷ []) ∷ [])

-- E41: loads go by the payload, whatever the operator; missing goes on where no ?? is, and to the second child where one is
-- Semicolon(EntityVariable=Entity:a*2+1, TempVariable=Temp:t*3+2, ContextVariable=Context:c*4+3, NullCoalescing(ContextVariable=Temp:x*2+1,
--   EntityVariable=Context:y), NullCoalescing(TempVariable=Context:b, TempVariable=Entity:e))
abbrev pub E41 : Example
E41 =
    example
    (be 49 0x01000000e80001_000000e21c3f80000000000000000005_000000160d400000003f80000004af63bd4c8601b7be01610000
    (be 52 0x000000160e404000004000000005af63bd4c8601b7ab01740000_000000160f408000004040000003af63bd4c8601b7bc01630000
    (be 42 0x000000401a3f80000000000000000002_000000160f400000003f80000005af63bd4c8601b7a701780000
    (be 42 0x000000160d3f8000000000000003af63bd4c8601b7a601790000_000000401a3f80000000000000000002
    (be 52 0x000000160e3f8000000000000003af63bd4c8601b7bd01620000_000000160e3f8000000000000004af63bd4c8601b7ba01650000 [])))))
    (be 65 0x010000010a0000000d_0500000000000001_0600000000000002_0700000000020003_2300000000060000_0600000000010001_2400000000070000_0700000000040000
    (be 48 0x23000000000a0000_0700000000050000_24000000000b0000_0500000000060000_0100000000000000_3000000000000000
    (be 63 0x0000000100000000_000000043f80000000000000400000003f80000040400000400000004080000040400000_00000000_00000007_af63bd4c8601b7be000161
    (be 66 0xaf63bd4c8601b7ab000174_af63bd4c8601b7bc000163_af63bd4c8601b7a7000178_af63bd4c8601b7a6000179_af63bd4c8601b7bd000162_af63bd4c8601b7ba000165
    (be 29 0x0000000200010003_00000000_00000000_00000000_000000000001000f01 [])))))
    (trial (true ∷ true ∷ true ∷ true ∷ true ∷ []) by_end 5
    (entry (E.e_load_var hash_a p21) 0 0 0 ∷ entry (E.e_load_temp hash_t p32) 0 0 0 ∷ entry (E.e_load_ctx hash_c p43) 0 0 0
    ∷ entry (E.e_load_temp hash_x p21) 0 0 1 ∷ entry (E.e_load_ctx hash_b identity) 0 0 1 ∷ entry (E.e_const 0) 0 0 0 ∷ [])
    ∷ trial (false ∷ false ∷ false ∷ false ∷ false ∷ false ∷ false ∷ []) by_end 7
    (entry (E.e_load_var hash_a p21) 0 0 0 ∷ entry (E.e_load_temp hash_t p32) 0 0 0 ∷ entry (E.e_load_ctx hash_c p43) 0 0 0
    ∷ entry (E.e_load_temp hash_x p21) 0 0 1 ∷ entry (E.e_load_ctx hash_y identity) 0 0 0 ∷ entry (E.e_load_ctx hash_b identity) 0 0 1
    ∷ entry (E.e_load_var hash_e identity) 0 0 0 ∷ entry (E.e_const 0) 0 0 0 ∷ [])
    ∷ trial (true ∷ false ∷ []) by_out 2
    (entry (E.e_load_var hash_a p21) 0 0 0 ∷ entry (E.e_load_temp hash_t p32) 0 0 0 ∷ entry (E.e_load_ctx hash_c p43) 0 0 0 ∷ []) ∷ [])

-- E42: array elements, arrays from the host: index, then the element by its array's name
-- NullCoalescing(Array=ArrayVariable:x*2+1(This), Array=ArrayVariable:y*3+2(TempVariable=Temp:t))
abbrev pub E42 : Example
E42 =
    example
    (be 65 0x01000000700101_0000006a1a3f80000000000000000002_0000002601400000003f80000007af63bd4c8601b7a701780001_0000000c0c3f80000000000000000000
    (be 52 0x0000003001404000004000000007af63bd4c8601b7a601790001_000000160e3f8000000000000005af63bd4c8601b7ab01740000 []))
    (be 65 0x01000000a000000007_2300000000040000_0400000000000000_0800000000000001_2400000000060000_0600000000000000_0800000000020002_3000000000000000
    (be 36 0x00000000_000000033f80000000000000400000003f8000004040000040000000_00000000
    (be 64 0x00000003af63bd4c8601b7a7000178af63bd4c8601b7ab000174af63bd4c8601b7a6000179_000000010001_00000000_00000000_00000000_000000000001000400 [])))
    (trial (true ∷ []) by_end 1
    (entry (E.e_this identity) 0 0 1 ∷ entry (E.e_array_element hash_x p21) 0 0 1 ∷ [])
    ∷ trial (false ∷ false ∷ false ∷ []) by_end 3
    (entry (E.e_this identity) 0 0 1 ∷ entry (E.e_array_element hash_x p21) 0 0 1 ∷ entry (E.e_load_temp hash_t identity) 0 0 0
    ∷ entry (E.e_array_element hash_y p32) 0 0 0 ∷ [])
    ∷ trial (false ∷ true ∷ true ∷ []) by_end 3
    (entry (E.e_this identity) 0 0 1 ∷ entry (E.e_array_element hash_x p21) 0 0 1 ∷ entry (E.e_load_temp hash_t identity) 0 0 0
    ∷ entry (E.e_array_element hash_y p32) 0 0 0 ∷ [])
    ∷ trial [] by_out 0
    (entry (E.e_this identity) 0 0 1 ∷ entry (E.e_array_element hash_x p21) 0 0 1 ∷ []) ∷ [])

-- E43: ordered comparisons: Lt 0, Le 1, Ge 2, Gt 3; a constant from a Float, from a Hash's low 32 bits, and 0.0 from anything else
-- Semicolon(LessThan*2+1(This, This), LessEqual*3+2(This, This), GreaterEqual*4+3(This, This), GreaterThan*5+4(This, This),
--   LessThan=Hash:0123456740400000*2+1(This), LessEqual=Float:3*3+2(This), GreaterEqual=Hash:fedcba9876543210*4+3(This),
--   GreaterThan=Entity:a*5+4(This))
abbrev pub E43 : Example
E43 =
    example
    (be 55 0x01000001700001_0000016a1c3f80000000000000000008_0000002c12400000003f800000000002_0000000c0c3f80000000000000000000
    (be 64 0x0000000c0c3f80000000000000000000_0000002c134040000040000000000002_0000000c0c3f80000000000000000000_0000000c0c3f80000000000000000000
    (be 64 0x0000002c144080000040400000000002_0000000c0c3f80000000000000000000_0000000c0c3f80000000000000000000_0000002c1540a0000040800000000002
    (be 56 0x0000000c0c3f80000000000000000000_0000000c0c3f80000000000000000000_0000002412400000003f8000000201234567404000000001
    (be 52 0x0000000c0c3f80000000000000000000_0000002013404000004000000001404000000001_0000000c0c3f80000000000000000000
    (be 66 0x0000002414408000004040000002fedcba98765432100001_0000000c0c3f80000000000000000000_000000261540a000004080000004af63bd4c8601b7be01610001
    (be 16 0x0000000c0c3f80000000000000000000 [])))))))
    (be 65 0x01000001310000001a_0400000000000000_0d00000000000000_0400000000000000_1700000000000001_0400000000000000_0d00000000000000_0400000000000000
    (be 64 0x1701000000000002_0400000000000000_0d00000000000000_0400000000000000_1702000000000003_0400000000000000_0d00000000000000_0400000000000000
    (be 64 0x1703000000000004_0400000000000000_1800000000000001_0400000000000000_1801000000000002_0400000000000000_1802000000010003_0400000000000000
    (be 24 0x1803000000020004_0100000000020000_3000000000000000
    (be 64 0x00000003404000007654321000000000_000000053f80000000000000400000003f8000004040000040000000408000004040000040a0000040800000_00000000
    (be 29 0x00000000_00000000_00000000_00000000_00000000_000100000000000101 []))))))
    (trial [] by_end 0
    (entry (E.e_this identity) 0 0 0 ∷ entry E.e_push 0 0 0 ∷ entry (E.e_this identity) 1 0 0 ∷ entry (E.e_cmp 0 p21) 1 0 0
    ∷ entry (E.e_this identity) 0 0 0 ∷ entry E.e_push 0 0 0 ∷ entry (E.e_this identity) 1 0 0 ∷ entry (E.e_cmp 1 p32) 1 0 0
    ∷ entry (E.e_this identity) 0 0 0 ∷ entry E.e_push 0 0 0 ∷ entry (E.e_this identity) 1 0 0 ∷ entry (E.e_cmp 2 p43) 1 0 0
    ∷ entry (E.e_this identity) 0 0 0 ∷ entry E.e_push 0 0 0 ∷ entry (E.e_this identity) 1 0 0 ∷ entry (E.e_cmp 3 p54) 1 0 0
    ∷ entry (E.e_this identity) 0 0 0 ∷ entry (E.e_cmp_const 0 0x40400000 p21) 0 0 0 ∷ entry (E.e_this identity) 0 0 0
    ∷ entry (E.e_cmp_const 1 0x40400000 p32) 0 0 0 ∷ entry (E.e_this identity) 0 0 0 ∷ entry (E.e_cmp_const 2 0x76543210 p43) 0 0 0
    ∷ entry (E.e_this identity) 0 0 0 ∷ entry (E.e_cmp_const 3 0 p54) 0 0 0 ∷ entry (E.e_const 0) 0 0 0 ∷ []) ∷ [])

-- E44: equality: Eq 0, Ne 1; a Hash is compared whole, a Float as a constant, anything else as 0.0
-- Semicolon(LogicalEqual*2+1(This, This), LogicalNotEqual*3+2(This, This), LogicalEqual=Hash:0123456740400000*4+3(This),
--   LogicalNotEqual=Hash:fedcba9876543210*5+4(This), LogicalEqual=Float:3*2+1(This), LogicalNotEqual=Float:7*3+2(This), LogicalEqual(This))
abbrev pub E44 : Example
E44 =
    example
    (be 55 0x010000012a0001_000001241c3f80000000000000000007_0000002c16400000003f800000000002_0000000c0c3f80000000000000000000
    (be 64 0x0000000c0c3f80000000000000000000_0000002c174040000040000000000002_0000000c0c3f80000000000000000000_0000000c0c3f80000000000000000000
    (be 64 0x000000241640800000404000000201234567404000000001_0000000c0c3f80000000000000000000_000000241740a000004080000002fedcba98765432100001
    (be 52 0x0000000c0c3f80000000000000000000_0000002016400000003f80000001404000000001_0000000c0c3f80000000000000000000
    (be 52 0x000000201740400000400000000140e000000001_0000000c0c3f80000000000000000000_0000001c163f80000000000000000001
    (be 16 0x0000000c0c3f80000000000000000000 []))))))
    (be 65 0x010000011100000014_0400000000000000_0d00000000000000_0400000000000000_1900000000000001_0400000000000000_0d00000000000000_0400000000000000
    (be 64 0x1901000000000002_0400000000000000_1b00000000000003_0400000000000000_1b01000000010004_0400000000000000_1a00000000000001_0400000000000000
    (be 40 0x1a01000000010002_0400000000000000_1a00000000020000_0100000000020000_3000000000000000
    (be 60 0x000000034040000040e0000000000000_000000053f80000000000000400000003f8000004040000040000000408000004040000040a0000040800000
    (be 49 0x000000020123456740400000fedcba9876543210_00000000_00000000_00000000_00000000_00000000_000100000000000000 [])))))
    (trial [] by_end 0
    (entry (E.e_this identity) 0 0 0 ∷ entry E.e_push 0 0 0 ∷ entry (E.e_this identity) 1 0 0 ∷ entry (E.e_eq 0 p21) 1 0 0
    ∷ entry (E.e_this identity) 0 0 0 ∷ entry E.e_push 0 0 0 ∷ entry (E.e_this identity) 1 0 0 ∷ entry (E.e_eq 1 p32) 1 0 0
    ∷ entry (E.e_this identity) 0 0 0 ∷ entry (E.e_eq_hash 0 0x0123456740400000 p43) 0 0 0 ∷ entry (E.e_this identity) 0 0 0
    ∷ entry (E.e_eq_hash 1 0xfedcba9876543210 p54) 0 0 0 ∷ entry (E.e_this identity) 0 0 0 ∷ entry (E.e_eq_const 0 0x40400000 p21) 0 0 0
    ∷ entry (E.e_this identity) 0 0 0 ∷ entry (E.e_eq_const 1 0x40e00000 p32) 0 0 0 ∷ entry (E.e_this identity) 0 0 0
    ∷ entry (E.e_eq_const 0 0 identity) 0 0 0 ∷ entry (E.e_const 0) 0 0 0 ∷ []) ∷ [])

-- E45: minus, not, and, or with their posts; no skips the rest of its own list alone
-- Semicolon(Negate*2+1(This), LogicalNot*3+2(This), LogicalAnd*4+3(This, This*2+1, This), LogicalOr*5+4(This, This*3+2))
abbrev pub E45 : Example
E45 =
    example
    (be 55 0x01000000c20001_000000bc1c3f80000000000000000004_0000001c25400000003f800000000001_0000000c0c3f80000000000000000000
    (be 64 0x0000001c264040000040000000000001_0000000c0c3f80000000000000000000_0000003c184080000040400000000003_0000000c0c3f80000000000000000000
    (be 64 0x0000000c0c400000003f800000000000_0000000c0c3f80000000000000000000_0000002c1940a0000040800000000002_0000000c0c3f80000000000000000000
    (be 16 0x0000000c0c4040000040000000000000 []))))
    (be 65 0x01000000d900000010_0400000000000000_0f00000000000001_0400000000000000_1000000000000002_0400000000000000_1c000000000a0003_0400000000000001
    (be 64 0x1c000000000a0003_0400000000000000_1e00000000000003_0400000000000000_1d000000000e0004_0400000000000002_1f00000000000004_0100000000000000
    (be 8 0x3000000000000000
    (be 64 0x0000000100000000_000000053f80000000000000400000003f8000004040000040000000408000004040000040a0000040800000_00000000_00000000_00000000
    (be 21 0x00000000_00000000_00000000_000000000000000101 [])))))
    (trial (true ∷ true ∷ true ∷ []) by_end 3
    (entry (E.e_this identity) 0 0 0 ∷ entry (E.e_negate p21) 0 0 0 ∷ entry (E.e_this identity) 0 0 0 ∷ entry (E.e_not p32) 0 0 0
    ∷ entry (E.e_this identity) 0 0 0 ∷ entry (E.e_and_step p43) 0 0 0 ∷ entry (E.e_this p21) 0 0 0 ∷ entry (E.e_and_step p43) 0 0 0
    ∷ entry (E.e_this identity) 0 0 0 ∷ entry (E.e_and_last p43) 0 0 0 ∷ entry (E.e_this identity) 0 0 0 ∷ entry (E.e_or_step p54) 0 0 0
    ∷ entry (E.e_this p32) 0 0 0 ∷ entry (E.e_or_last p54) 0 0 0 ∷ entry (E.e_const 0) 0 0 0 ∷ [])
    ∷ trial (true ∷ false ∷ false ∷ []) by_end 3
    (entry (E.e_this identity) 0 0 0 ∷ entry (E.e_negate p21) 0 0 0 ∷ entry (E.e_this identity) 0 0 0 ∷ entry (E.e_not p32) 0 0 0
    ∷ entry (E.e_this identity) 0 0 0 ∷ entry (E.e_and_step p43) 0 0 0 ∷ entry (E.e_this p21) 0 0 0 ∷ entry (E.e_and_step p43) 0 0 0
    ∷ entry (E.e_this identity) 0 0 0 ∷ entry (E.e_or_step p54) 0 0 0 ∷ entry (E.e_const 0) 0 0 0 ∷ [])
    ∷ trial (false ∷ []) by_out 1
    (entry (E.e_this identity) 0 0 0 ∷ entry (E.e_negate p21) 0 0 0 ∷ entry (E.e_this identity) 0 0 0 ∷ entry (E.e_not p32) 0 0 0
    ∷ entry (E.e_this identity) 0 0 0 ∷ entry (E.e_and_step p43) 0 0 0 ∷ entry (E.e_this identity) 0 0 0 ∷ entry (E.e_or_step p54) 0 0 0 ∷ []) ∷ [])

-- E46: sums, products and functions with their posts; the divisor setting Signed; the second operand of Div first
-- Semicolon(Add*4+3(This*2+1, This, This, This*3+2), Mul*5+4(This, This), Div*6+5(This*2+1, This*3+2), HostMath#265*2+1(This, This),
--   HostMathVolatile#8*3+2(This), Add(This, This))
abbrev pub E46 : Example
E46 =
    example
    (be 55 0x01000001460000_000001401c3f80000000000000000006_0000004c274080000040400000000004_0000000c0c400000003f800000000000
    (be 64 0x0000000c0c3f80000000000000000000_0000000c0c3f80000000000000000000_0000000c0c4040000040000000000000_0000002c2840a0000040800000000002
    (be 64 0x0000000c0c3f80000000000000000000_0000000c0c3f80000000000000000000_0000002c2940c0000040a00000000002_0000000c0c400000003f800000000000
    (be 66 0x0000000c0c4040000040000000000000_0000002e2a400000003f8000000c01090002_0000000c0c3f80000000000000000000_0000000c0c3f80000000000000000000
    (be 66 0x0000001e2b40400000400000000c00080001_0000000c0c3f80000000000000000000_0000002c273f80000000000000000002_0000000c0c3f80000000000000000000
    (be 16 0x0000000c0c3f80000000000000000000 []))))))
    (be 65 0x01000001410000001c_0400000000000001_0d00000000000000_0400000000000000_1100000000000000_0400000000000000_1100000000000000_0400000000000002
    (be 64 0x1200000000000003_0400000000000000_0d00000000000000_0400000000000000_1300000000000004_0400000000000002_1400000000100000_0400000000000001
    (be 64 0x1500000000000005_0400000000000000_0d00000000000000_0400000000000000_1602000001090001_0400000000000000_1601000000080002_0400000000000000
    (be 40 0x0d00000000000000_0400000000000000_1200000000000000_0100000000000000_3000000000000000
    (be 64 0x0000000100000000_000000063f80000000000000400000003f8000004040000040000000408000004040000040a000004080000040c0000040a00000_00000000
    (be 29 0x00000000_00000000_00000000_00000000_00000000_000100000000060101 []))))))
    (trial (true ∷ []) by_end 1
    (entry (E.e_this p21) 0 0 0 ∷ entry E.e_push 0 0 0 ∷ entry (E.e_this identity) 1 0 0 ∷ entry E.e_add_acc 1 0 0 ∷ entry (E.e_this identity) 1 0 0
    ∷ entry E.e_add_acc 1 0 0 ∷ entry (E.e_this p32) 1 0 0 ∷ entry (E.e_add_last p43) 1 0 0 ∷ entry (E.e_this identity) 0 0 0 ∷ entry E.e_push 0 0 0
    ∷ entry (E.e_this identity) 1 0 0 ∷ entry (E.e_mul p54) 1 0 0 ∷ entry (E.e_this p32) 0 0 0 ∷ entry (E.e_div_guard false) 0 0 0
    ∷ entry (E.e_this p21) 1 0 0 ∷ entry (E.e_div p65) 1 0 0 ∷ entry (E.e_this identity) 0 0 0 ∷ entry E.e_push 0 0 0 ∷ entry (E.e_this identity) 1 0 0
    ∷ entry (E.e_host_math 265 2 p21) 1 0 0 ∷ entry (E.e_this identity) 0 0 0 ∷ entry (E.e_host_math 8 1 p32) 0 0 0 ∷ entry (E.e_this identity) 0 0 0
    ∷ entry E.e_push 0 0 0 ∷ entry (E.e_this identity) 1 0 0 ∷ entry (E.e_add_last identity) 1 0 0 ∷ entry (E.e_const 0) 0 0 0 ∷ [])
    ∷ trial (false ∷ []) by_end 1
    (entry (E.e_this p21) 0 0 0 ∷ entry E.e_push 0 0 0 ∷ entry (E.e_this identity) 1 0 0 ∷ entry E.e_add_acc 1 0 0 ∷ entry (E.e_this identity) 1 0 0
    ∷ entry E.e_add_acc 1 0 0 ∷ entry (E.e_this p32) 1 0 0 ∷ entry (E.e_add_last p43) 1 0 0 ∷ entry (E.e_this identity) 0 0 0 ∷ entry E.e_push 0 0 0
    ∷ entry (E.e_this identity) 1 0 0 ∷ entry (E.e_mul p54) 1 0 0 ∷ entry (E.e_this p32) 0 0 0 ∷ entry (E.e_div_guard false) 0 0 0
    ∷ entry (E.e_this identity) 0 0 0 ∷ entry E.e_push 0 0 0 ∷ entry (E.e_this identity) 1 0 0 ∷ entry (E.e_host_math 265 2 p21) 1 0 0
    ∷ entry (E.e_this identity) 0 0 0 ∷ entry (E.e_host_math 8 1 p32) 0 0 0 ∷ entry (E.e_this identity) 0 0 0 ∷ entry E.e_push 0 0 0
    ∷ entry (E.e_this identity) 1 0 0 ∷ entry (E.e_add_last identity) 1 0 0 ∷ entry (E.e_const 0) 0 0 0 ∷ [])
    ∷ trial [] by_out 0
    (entry (E.e_this p21) 0 0 0 ∷ entry E.e_push 0 0 0 ∷ entry (E.e_this identity) 1 0 0 ∷ entry E.e_add_acc 1 0 0 ∷ entry (E.e_this identity) 1 0 0
    ∷ entry E.e_add_acc 1 0 0 ∷ entry (E.e_this p32) 1 0 0 ∷ entry (E.e_add_last p43) 1 0 0 ∷ entry (E.e_this identity) 0 0 0 ∷ entry E.e_push 0 0 0
    ∷ entry (E.e_this identity) 1 0 0 ∷ entry (E.e_mul p54) 1 0 0 ∷ entry (E.e_this p32) 0 0 0 ∷ entry (E.e_div_guard false) 0 0 0 ∷ []) ∷ [])

-- E47: stores: value, then the target's hash; a member path's root is Var, Temp or Other; a bare assignment reads a Hash's low 32 bits
-- Semicolon(Assignment*2+1(EntityVariable=Entity:a, This), Assignment=Hash:0123456740400000*3+2(TempVariable=Temp:t),
--   Assignment*4+3(MemberAccessor=Member:y(MemberAccessor=Member:x(EntityVariable=Entity:b)), This),
--   Assignment=Float:3*5+4(MemberAccessor=Member:x(TempVariable=Temp:c)), Assignment*6+5(MemberAccessor=Member:y(This)),
--   Assignment(ContextVariable=Temp:e, This))
abbrev pub E47 : Example
E47 =
    example
    (be 65 0x01000001a80001_000001a21c3f80000000000000000006_0000003621400000003f800000000002_000000160d3f8000000000000004af63bd4c8601b7be01610000
    (be 66 0x0000000c0c3f80000000000000000000_0000002e2140400000400000000201234567404000000001_000000160e3f8000000000000005af63bd4c8601b7ab01740000
    (be 42 0x0000006a214080000040400000000002_0000004a103f8000000000000006af63bd4c8601b7a601790001
    (be 52 0x00000030103f8000000000000006af63bd4c8601b7a701780001_000000160d3f8000000000000004af63bd4c8601b7bd01620000
    (be 62 0x0000000c0c3f80000000000000000000_000000442140a000004080000001404000000001_00000030103f8000000000000006af63bd4c8601b7a701780001
    (be 42 0x000000160e3f8000000000000005af63bd4c8601b7bc01630000_000000362140c0000040a00000000001
    (be 58 0x00000026103f8000000000000006af63bd4c8601b7a601790001_0000000c0c3f80000000000000000000_00000036213f80000000000000000002
    (be 42 0x000000160f3f8000000000000005af63bd4c8601b7ba01650000_0000000c0c3f80000000000000000000 []))))))))
    (be 65 0x01000001410000000e_0400000000000000_0a00000000000001_0100000000000000_0b00000000000002_0400000000000000_0c00000000000003_0100000000000000
    (be 56 0x0c00000000010004_0100000000010000_0c00000000020005_0400000000000000_0b00000000020000_0100000000010000_3000000000000000
    (be 64 0x000000024040000000000000_000000063f80000000000000400000003f8000004040000040000000408000004040000040a000004080000040c0000040a00000
    (be 63 0x00000000_00000005af63bd4c8601b7be000161af63bd4c8601b7ab000174af63bd4c8601b7bd000162af63bd4c8601b7bc000163af63bd4c8601b7ba000165
    (be 65 0x00000003000100030004_00000000_000000030000020002af63bd4c8601b7a7af63bd4c8601b7a60100010001af63bd4c8601b7a70200000001af63bd4c8601b7a6
    (be 13 0x00000000_000000000000003400 []))))))
    (trial [] by_end 0
    (entry (E.e_this identity) 0 0 0 ∷ entry (E.e_store_var hash_a p21) 0 0 0 ∷ entry (E.e_const 0x40400000) 0 0 0 ∷ entry (E.e_store_temp hash_t p32) 0 0 0
    ∷ entry (E.e_this identity) 0 0 0 ∷ entry (E.e_store_member (root_var hash_b) (hash_x ∷ hash_y ∷ []) p43) 0 0 0 ∷ entry (E.e_const 0x40400000) 0 0 0
    ∷ entry (E.e_store_member (root_temp hash_c) (hash_x ∷ []) p54) 0 0 0 ∷ entry (E.e_const 0) 0 0 0
    ∷ entry (E.e_store_member root_other (hash_y ∷ []) p65) 0 0 0 ∷ entry (E.e_this identity) 0 0 0 ∷ entry (E.e_store_temp hash_e identity) 0 0 0
    ∷ entry (E.e_const 0) 0 0 0 ∷ []) ∷ [])

-- E48: pointer, member and call with their posts: the call's index, impl_idx and argument count; no at the pointer skips all behind it
-- Pointer*2+1(This, MemberAccessor=Member:x*4+3(QueryFunction#258.3*3+2(This, EntityVariable=Entity:a*2+1)))
abbrev pub E48 : Example
E48 =
    example
    (be 65 0x01000000790001_0000007322400000003f800000000002_0000000c0c3f80000000000000000000_0000005310408000004040000006af63bd4c8601b7a701780001
    (be 61 0x000000391140400000400000000b0102030002_0000000c0c3f80000000000000000000_000000160d400000003f80000004af63bd4c8601b7be01610000 []))
    (be 65 0x01000000c50000000a_0400000000000000_2500000000050001_2700000000000002_0900000000000003_2600000000000001_3000000000000000_0400000000000000
    (be 24 0x3000000000000000_0500000000000001_3000000000000000
    (be 63 0x00000000_000000043f80000000000000400000003f80000040400000400000004080000040400000_00000000_00000001af63bd4c8601b7be000161_00000000
    (be 50 0x00000001af63bd4c8601b7a700022e7800022e78_00000000_0000000101020300020000000600000008_000000000000019200 []))))
    (trial (true ∷ true ∷ true ∷ true ∷ []) by_end 4
    (entry (E.e_this identity) 0 0 0 ∷ entry (E.e_pointer_enter p21) 0 0 0 ∷ entry (E.e_call 258 3 2 p32) 0 0 0 ∷ argument 0
    ∷ entry (E.e_this identity) 0 0 0 ∷ argument 1 ∷ entry (E.e_load_var hash_a p21) 0 0 0 ∷ entry (E.e_member hash_x p43) 0 0 0
    ∷ entry (E.e_pointer_leave p21) 0 0 0 ∷ [])
    ∷ trial (true ∷ false ∷ false ∷ false ∷ []) by_end 4
    (entry (E.e_this identity) 0 0 0 ∷ entry (E.e_pointer_enter p21) 0 0 0 ∷ entry (E.e_call 258 3 2 p32) 0 0 0 ∷ argument 0
    ∷ entry (E.e_this identity) 0 0 0 ∷ argument 1 ∷ entry (E.e_load_var hash_a p21) 0 0 0 ∷ entry (E.e_member hash_x p43) 0 0 0
    ∷ entry (E.e_pointer_leave p21) 0 0 0 ∷ [])
    ∷ trial (false ∷ []) by_end 1
    (entry (E.e_this identity) 0 0 0 ∷ entry (E.e_pointer_enter p21) 0 0 0 ∷ []) ∷ [])

-- E49: loops: a ForEach variable goes by its payload, whatever the operator; a loop's constant is the fold of 0.0
-- Semicolon(ForEach*2+1(EntityVariable=Entity:e, This, This*2+1), ForEach*3+2(This=Temp:t, This, Continue), Loop*4+3(This, This*3+2))
abbrev pub E49 : Example
E49 =
    example
    (be 65 0x01000000d60001_000000d01c3f80000000000000000003_000000461e400000003f800000000003_000000160d3f8000000000000004af63bd4c8601b7ba01650000
    (be 48 0x0000000c0c3f80000000000000000000_0000000c0c400000003f800000000000_000000461e4040000040000000000003
    (be 58 0x000000160c3f8000000000000005af63bd4c8601b7ab01740000_0000000c0c3f80000000000000000000_0000000c203f80000000000000000000
    (be 48 0x0000002c1d4080000040400000000002_0000000c0c3f80000000000000000000_0000000c0c4040000040000000000000 []))))
    (be 65 0x010000011d00000016_0400000000000000_2b00000000060000_2c00000000050000_0400000000000001_2000000000020000_2a00000000000000_0100000000000000
    (be 64 0x0400000000000000_2b000000000d0000_2d000000000c0000_2000000000090000_2000000000090000_2a00000000000000_0100000000010000_0400000000000000
    (be 56 0x2800000000130000_0400000000000002_2900000000100000_2a00000000000000_0100000000020000_0100000000030000_3000000000000000
    (be 52 0x000000043f800000400000004040000000000000_000000033f80000000000000400000003f8000004040000040000000_00000000
    (be 53 0x00000002af63bd4c8601b7ba000165af63bd4c8601b7ab000174_000000010001_00000000_00000000_00000000_000100010000004400 [])))))
    (trial (true ∷ true ∷ true ∷ false ∷ true ∷ true ∷ false ∷ true ∷ true ∷ false ∷ []) by_end 10
    (entry (E.e_this identity) 0 0 0 ∷ entry E.e_each_begin 0 0 0 ∷ entry (E.e_each_next_var hash_e) 0 1 0 ∷ entry (E.e_this p21) 0 1 0
    ∷ entry (E.e_each_next_var hash_e) 0 1 0 ∷ entry (E.e_this p21) 0 1 0 ∷ entry (E.e_each_next_var hash_e) 0 1 0 ∷ entry E.e_loop_end 0 1 0
    ∷ entry (E.e_const 0x3f800000) 0 0 0 ∷ entry (E.e_this identity) 0 0 0 ∷ entry E.e_each_begin 0 0 0 ∷ entry (E.e_each_next_temp hash_t) 0 1 0
    ∷ entry (E.e_each_next_temp hash_t) 0 1 0 ∷ entry E.e_loop_end 0 1 0 ∷ entry (E.e_const 0x40000000) 0 0 0 ∷ entry (E.e_this identity) 0 0 0
    ∷ entry E.e_loop_begin 0 0 0 ∷ entry (E.e_this p32) 1 1 0 ∷ entry E.e_loop_check 1 1 0 ∷ entry (E.e_this p32) 1 1 0 ∷ entry E.e_loop_check 1 1 0
    ∷ entry E.e_loop_end 1 1 0 ∷ entry (E.e_const 0x40400000) 0 0 0 ∷ entry (E.e_const 0) 0 0 0 ∷ [])
    ∷ trial (false ∷ false ∷ false ∷ []) by_end 3
    (entry (E.e_this identity) 0 0 0 ∷ entry E.e_each_begin 0 0 0 ∷ entry (E.e_const 0x3f800000) 0 0 0 ∷ entry (E.e_this identity) 0 0 0
    ∷ entry E.e_each_begin 0 0 0 ∷ entry (E.e_const 0x40000000) 0 0 0 ∷ entry (E.e_this identity) 0 0 0 ∷ entry E.e_loop_begin 0 0 0
    ∷ entry (E.e_const 0x40400000) 0 0 0 ∷ entry (E.e_const 0) 0 0 0 ∷ [])
    ∷ trial (true ∷ false ∷ true ∷ false ∷ true ∷ false ∷ []) by_end 6
    (entry (E.e_this identity) 0 0 0 ∷ entry E.e_each_begin 0 0 0 ∷ entry (E.e_each_next_var hash_e) 0 1 0 ∷ entry E.e_loop_end 0 1 0
    ∷ entry (E.e_const 0x3f800000) 0 0 0 ∷ entry (E.e_this identity) 0 0 0 ∷ entry E.e_each_begin 0 0 0 ∷ entry (E.e_each_next_temp hash_t) 0 1 0
    ∷ entry E.e_loop_end 0 1 0 ∷ entry (E.e_const 0x40000000) 0 0 0 ∷ entry (E.e_this identity) 0 0 0 ∷ entry E.e_loop_begin 0 0 0
    ∷ entry (E.e_this p32) 1 1 0 ∷ entry E.e_loop_check 1 1 0 ∷ entry E.e_loop_end 1 1 0 ∷ entry (E.e_const 0x40400000) 0 0 0 ∷ entry (E.e_const 0) 0 0 0
    ∷ []) ∷ [])

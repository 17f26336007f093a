-- Facts computed of each rule, in the order of their numbers. Made from docs/grammar.txt; that they hold is proved.
use Rattle.std.specs.Prelude.{ℕ, List, [], ◌∷◌, Bool, true, false}

-- the atoms that begin each rule
abbrev pub beginnings : List ℕ
beginnings =
    0x3ffffffffffcbffbffe119214824ca42192d91022000000 ∷ 0x3ffffffffffcbffbffe119214824ca42192d91022000000 ∷ 0x3ffffffffffcbffbffe119214824ca42192d90020000000 ∷ 0x3ffffffffffffffffffffffffffffffffffff0000000000 ∷
    0x3ff7fffdcdff7e7ffffffbfffee6ffbf3fffffb28a50602c ∷ 0x200000000000000000000000000000000000000000000000 ∷ 0x410000000000000000208000000000000000000000003 ∷ 0x3ff7fffdcdff7e7ffffffbfffee6ffbf3fffff3028000004 ∷ 0x1 ∷ 0x1 ∷
    0x200004000800000000100002000400000000000000 ∷ 0x40 ∷ 0x20000000000000000010000000000000000000 ∷ 0x100000000000000000000000000000000000000000000000 ∷ 0x10040 ∷ 0x40 ∷ 0x32429001948422520019214800ca42112900000000000 ∷
    0x80000000000000000040000000000 ∷ 0x4005000000000000002002800000000000 ∷ 0x3ff7fffdcdff7e7ffffffbfffee6ffbf3fffff300801602c ∷ 0x3ffffffffffffffffffffffffffffffffffff0000000000 ∷
    0x3ff7fffdcdff7e7ffffffbfffee6ffbf3fffff300800602c ∷ 0x4000000000000480002000000000000240000000000000 ∷ 0x3ff7fffdcdff7e7ffff7fbfffee6ffbf3ffffb300800602c ∷ 0x3ff7fffdcdff7e7ffff7fbfffee6ffbf3ffffb300800602c ∷
    0x3ff7fffdcdff7e7ffffffbfffee6ffbf3fffff3008000004 ∷ 0x3ff7fffdcdff7e7ffffffbfffee6ffbf3fffff3008000004 ∷ 0x3ff7fffdcdff7e7ffffffbfffee6ffbf3fffff3008000004 ∷ 0x3ff7fffdcdff7e7ffffffbfffee6ffbf3fffff300a000004 ∷
    0x3ff7fffdcdff7e7ffffffbfffee6ffbf3fffff300a000004 ∷ 0x3ff7fffdcdff7e7ffffffbfffee6ffbf3fffff300a000004 ∷ 0x3ff7fffdcdff7e7ffffffbfffee6ffbf3fffff300a000004 ∷ 0x3ff7fffdcdff7e7ffffffbfffee6ffbf3fffff3008000004 ∷
    0x23ffffffffffffffffffffffffffffffffffff0003000000 ∷ 0x22ffffffffffff7fff7f7fffffffffffbfffbf0000000000 ∷ 0x200000000000000000000000000000000000000000000000 ∷ 0x2ffffffffffff7fff7f7fffffffffffbfffbf0000000000 ∷
    0x2ffffffffffff7fff7f7fffffffffffbfffbf0000000000 ∷ 0x10000000000008000808000000000004000400001000000 ∷ 0x10000000000008000808000000000004000400000000000 ∷ 0x2ffffffffffff7fff7f7fffffffffffbfffbf0000002000 ∷
    0x2ffffffffffff7fff7f7fffffffffffbfffbf0000000000 ∷ 0x10000000000008000808000000000004000400001000000 ∷ 0x3ffffffffffffffffffffffffffffffffffff0000000000 ∷ 0x2ffffffffffff7fff7f7fffffffffffbfffbf0000000000 ∷
    0x3ef7fffdcdff7e7fff7f7bfffee6ffbf3fffbf3028000004 ∷ 0x3ef7fffdcdff7e7fff7f7bfffee6ffbf3fffbf3028000004 ∷ 0x3ef7fffdcdff7e7fff7f7bfffee6ffbf3fffbf3028000004 ∷ 0x3ef7fffdcdff7e7fff7f7bfffee6ffbf3fffbf3008000004 ∷
    0x3ffffffffffffffffffffffffffffffffffff0000000000 ∷ 0x3ff7fffdcdff7e7ffffffbfffee6ffbf3fffffb28a50602c ∷ 0x3ef7fffdcdff7e7fff7f7bfffee6ffbf3fffbf3008000000 ∷ 0x2ffffffffffff7fff7f7fffffffffffbfffbf0000002000 ∷
    0x2ffffffffffff7fff7f7fffffffffffbfffbf0000002000 ∷ 0x40 ∷ 0x13ffffffffffffffffffffffffffffffffffff0000000000 ∷ 0x10000 ∷ 0x80 ∷ 0x800000000000000000400000000000000000000000 ∷
    0x3ff7fffdcdff7e7ffffffbfffee6ffbf3fffff300800602c ∷ 0x1000000 ∷ 0x3ff7fffdcdff7e7ffffffbfffee6ffbf3fffff300800602c ∷ 0x3c000000000000000000000000000000000000300800602c ∷ 0x6028 ∷ 0x10000 ∷ 0x10000 ∷
    0x3ff7fffdcdff7e7ffffffbfffee6ffbf3fffff300800602c ∷ 0x1400 ∷ 0x1400 ∷ 0x3ff7fffdcdff7e7ffffffbfffee6ffbf3fffff300800602c ∷ 0x2120081800000000001090040c0000000003e8000 ∷ 0x2120081800000000001090040c0000000003e8000 ∷
    0x2120081800000000001090040c0000000003e8000 ∷ 0x3ff7fffdcdff7e7ffffffbfffee6ffbf3fffff300800202c ∷ 0x2000000000000000001000000000000000000000 ∷ 0x3ff7fffdcdff7e7ffffffbfffee6ffbf3fffff300800202c ∷ 0x14 ∷ 0x14 ∷
    0x3ff7fffdcdff7e7ffffffbfffee6ffbf3fffff300800202c ∷ 0xbc0 ∷ 0xbc0 ∷ 0x3ff7fffdcdff7e7ffffffbfffee6ffbf3fffff300800202c ∷ 0x3 ∷ 0x3 ∷ 0x3ff7fffdcdff7e7ffffffbfffee6ffbf3fffff300800002c ∷
    0x3ff7fffdcdff7e7ffffffbfffee6ffbf3fffff3008000028 ∷ 0x28 ∷ 0x28 ∷ 0x28 ∷ 0xc00000000 ∷ 0xc00000000 ∷ 0x3ff7fffdcdff7e7ffffffbfffee6ffbf3fffff3008000000 ∷ 0x208000000 ∷ 0x8000000 ∷
    0x3ff7fffdcdff7e7ffffffbfffee6ffbf3fffff300800602c ∷ 0x1000000 ∷ 0x3ff7fffdcdff7e7ffffffbfffee6ffbf3fffff3008000000 ∷ 0x3c0000000000000000000000000000000000003008000000 ∷ 0x8000000 ∷
    0x1c0000000000000000000000000000000000003000000000 ∷ 0x3ff7fffdcdff7e7ffffffbfffee6ffbf3fffff3008000004 ∷ 0x2120081800000000001090040c000000e083f9fff ∷ 0x2120081800000000001090040c0000000003f9fd7 ∷
    0x2120081800000000001090040c000000e083f9fff ∷ 0x2120081800000000001090040c000000e003f9fff ∷ 0xe08000028 ∷ 0xe00000028 ∷ 0x2120081800000000001090040c0000000003f9fd7 ∷ 0x3ff7fffdcdff7e7feffffbfffee6ffbf3ff7ffb28a50602c ∷
    0x1c0000000000000000000000000000000000003008000000 ∷ 0x602c ∷ 0x8080000800021008004040000400010804000000000000 ∷ 0xc000000000000000006000000000000000000000 ∷ 0x8100000000000000004080000000000000000000000 ∷
    0x3040100000002400001820080000001200000000000 ∷ 0x2000000 ∷ 0x3000000 ∷ 0x8282500000 ∷ 0x3ff7fffdcdff7e7feffffbfffee6ffbf3ff7ffb28a50602c ∷ 0x200000000000000000000000000000000000000000000000 ∷
    0x2120081800000000001090040c000000e0b3f9fff ∷ 0x2120081800000000001090040c000000e093f9fff ∷ 0x8000000 ∷ 0x10000000000000000008000000000000 ∷ 0x8000000 ∷ 0x3ff7fffdcdff7e7feffffbfffee6ffbf3ff7ffb28a50602c ∷ 0x8000000 ∷
    0x3ff7fffdcdff7e7ffffffbfffee6ffbf3fffff300800602c ∷ 0x3ff7fffdcdff7e7ffffffbfffee6ffbf3fffff300800602c ∷ 0x3ff7fffdcdff7e7ffffffbfffee6ffbf3fffff300800602c ∷ 0x8000000 ∷ 0x8000000 ∷
    0x3ff7fffdcdff7e7ffffffbfffee6ffbf3fffff3008000004 ∷ 0x3ff7fffdcdff7e7ffffffbfffee6ffbf3fffffb28a50602c ∷ 0x3ff7fffdcdff7e7ffffffbfffee6ffbf3fffff300800602c ∷ 0x1000000 ∷ 0x3ff7fffdcdff7e7ffffffbfffee6ffbf3fffff300a00602c ∷
    0x3ff7fffdcdff7e7ffffffbfffee6ffbf3fffff300800602c ∷ 0x3ffffffffffffffffffffffffffffffffffff0000000000 ∷ 0x3ff7fffdcdff7e7ffffffbfffee6ffbf3fffff3008000000 ∷ 0x3ff7fffdcdff7e7ffffffbfffee6ffbf3fffff3008002000 ∷
    0x3ff7fffdcdff7e7ffffffbfffee6ffbf3fffff3008000000 ∷ 0x3ff7fffdcdff7e7ffffffbfffee6ffbf3fffff300800602c ∷ 0x3ff7fffdcdff7e7ffffffbfffee6ffbf3fffff300800602c ∷ 0x3ffffffffffffffffffffffffffffffffffff0000000000 ∷
    0x3ffffffffffffffffffffffffffffffffffff0008000000 ∷ 0x3ffffffffffffffffffffffffffffffffffff0008000000 ∷ 0x3ff7fffdcdff7e7ffffffbfffee6ffbf3fffff3008000000 ∷ 0x3ff7fffdcdff7e7ffffffbfffee6ffbf3fffff3008000000 ∷
    0x3ff7fffdcdff7e7ffffffbfffee6ffbf3fffff7008000005 ∷ 0x3ff7fffdcdff7e7ffffffbfffee6ffbf3fffff7008000005 ∷ 0x3ff7fffdcdff7e7ffffffbfffee6ffbf3fffff7008000005 ∷ 0x1ff7fffdcdff7e7ffffffbfffee6ffbf3fffff3008000004 ∷
    0x3ff7fffdcdff7e7ffffffbfffee6ffbf3fffff7008000005 ∷ 0x3ff7fffdcdff7e7ffffffbfffee6ffbf3fffff3008000004 ∷ 0x4000000001 ∷ 0x4000000001 ∷ 0x4000000000 ∷ 0x4000000000 ∷ 0x3ffffffffffffffffffffffffffffffffffff0000002000 ∷
    0x3ff7fffdcdff7e7ffffffbfffee6ffbf3fffff300800602c ∷ 0x2120081800000000001090040c000000e083f9fff ∷ 0x1ff7fffdcdff7e7ffffffbfffee6ffbf3fffff300000602c ∷ 0x3fffffffffffffffffffffffffffffffffffff300800602c ∷
    0x2120081800000000001090040c000000e193f9fff ∷ 0x3ff7ffffdffffffffffffbffffefffffffffff3e083f9fff ∷ 0x2120081800000000001090040c000000e093f9fff ∷ 0x3ff7fffdcdff7e7ffffffbfffee6ffbf3fffff3008000000 ∷
    0x3ff7fffdcdff7e7ffffffbfffee6ffbf3fffffb28a50602c ∷ 0x80002120081800000040001090040c000000e0f3f9fff ∷ 0x80002120081800000040001090040c000000e0f3f9fff ∷ 0x1c0000000000000000000000000000000000003008000000 ∷ 0x602c ∷
    0x80000000000000000040000000000000000000d000000 ∷ 0x80000000000000000040000000000000000000d000000 ∷ 0x3ffffffdcdff7e7feffffffffee6ffbf3ff7ffb28f50602c ∷ 0x80000000000000000040000000000000000000d000000 ∷
    0x80000000000000000040000000000000000000d000000 ∷ 0x80000000000000000040000000000000000000d000000 ∷ 0xc000000000000000006000000000000000000000 ∷ 0x3ffffffdcdff7e7ffffffffffee6ffbf3fffff300d00602c ∷
    0x3ffffffdcdff7e7ffffffffffee6ffbf3fffff300f00602c ∷ 0x800000000000000000400000000000000000007000000 ∷ 0x3ffffffffffffffffffffffffffffffffffff0005000000 ∷ 0x3ffffffdcdff7e7ffffffffffee6ffbf3fffff300d000000 ∷
    0x3ffffffdcdff7e7ffffffffffee6ffbf3fffff300d000000 ∷ 0x8100000000000000004080000000000000000000000 ∷ 0x3ffffffdcdff7e7ffffffffffee6ffbf3fffff300d00602c ∷ 0x3ffffffdcdff7e7ffffffffffee6ffbf3fffff300d00602c ∷
    0x3ffffffffffffffffffffffffffffffffffff0005000000 ∷ 0x4000000 ∷ 0x800000000000000000400000000000000000005000000 ∷ 0x800000000000000000400000000000000000005000000 ∷ 0x800000000000000000400000000000000000000000000 ∷ 0x5000000 ∷
    0x1000000 ∷ 0x800000000000000000400000000000000000000000000 ∷ 0x80002120081800000040001090040c000000e0b3f9fff ∷ 0x3ff7fffdcdff7e7ffffffbfffee6ffbf3fffff300800602c ∷ 0x80002120081800000040001090040c000000e0f3f9fff ∷ 0x7000000 ∷
    0x3ff7fffdcdff7e7ffffffbfffee6ffbf3fffff3008000004 ∷ 0x800000000000000000400000000000000000005000000 ∷ 0x800000000000000000400000000000000000001000000 ∷ 0x3ff7fffdcdff7e7ffbfffbfffee6ffbf3ffdff3008000004 ∷
    0x800000000000000000400000000000000000005000000 ∷ 0x5000000 ∷ 0x1000000 ∷ 0x3ff7fffdcdff7e7ffffffbfffee6ffbf3fffff3008000004 ∷ 0x800000000000000000400000000000000000000000000 ∷ 0x800000000000000000400000000000000000000000000 ∷
    0x3ff7fffdcdff7e7ffffffbfffee6ffbf3fffffb28a50602c ∷ 0x80002120081800000040001090040c000000e0f3f9fff ∷ 0x80002120081800000040001090040c000000e0d3f9fff ∷ 0x80002120081800000040001090040c000000e0f3f9fff ∷
    0x80002120081800000040001090040c000000e0f3f9fff ∷ 0x80002120081800000040001090040c000000e0b3f9fff ∷ 0x1c0000000000000000000000000000000000003008000000 ∷ 0x80002120081800000040001090040c000000e0f3f9fff ∷
    0x3ff7fffdcdff7e7ffffffbfffee6ffbf3fffff300800002c ∷ 0x2c ∷ 0x80000000000000000040000000000000000000d000000 ∷ 0x80000000000000000040000000000000000000d000000 ∷ 0x3ffffffdcdff7e7feffffffffee6ffbf3ff7ffb28f50602c ∷
    0x80000000000000000040000000000000000000d000000 ∷ 0x80000000000000000040000000000000000000d000000 ∷ 0x80000000000000000040000000000000000000d000000 ∷ 0xc000000000000000006000000000000000000000 ∷
    0x3ffffffdcdff7e7ffffffffffee6ffbf3fffff300d00602c ∷ 0x3ffffffdcdff7e7ffffffffffee6ffbf3fffff300f00602c ∷ 0x800000000000000000400000000000000000007000000 ∷ 0x3ffffffffffffffffffffffffffffffffffff0005000000 ∷
    0x3ffffffdcdff7e7ffffffffffee6ffbf3fffff300d000000 ∷ 0x3ffffffdcdff7e7ffffffffffee6ffbf3fffff300d000000 ∷ 0x8100000000000000004080000000000000000000000 ∷ 0x3ffffffdcdff7e7ffffffffffee6ffbf3fffff300d00602c ∷
    0x3ffffffdcdff7e7ffffffffffee6ffbf3fffff300d00602c ∷ 0x3ffffffffffffffffffffffffffffffffffff0005000000 ∷ 0x800000000000000000400000000000000000005000000 ∷ 0x800000000000000000400000000000000000005000000 ∷
    0x80002120081800000040001090040c000000e0f3f9fff ∷ 0x80002120081800000040001090040c0000000073f9fd7 ∷ 0x80002120081800000040001090040c000000e093f9fff ∷ 0x80002120081800000040001090040c0000000013f9fd7 ∷
    0x3ff7fffdcdff7e7ffffffbfffee6ffbf3fffff300800602c ∷ 0x3ff7fffdcdff7e7ffffffbfffee6ffbf3fffff300800002c ∷ 0x2c ∷ 0x80002120081800000040001090040c000000e0f3f9fff ∷ 0x80002120081800000040001090040c000000e0f3f9fff ∷
    0x80002120081800000040001090040c0000000073f9fd7 ∷ 0x7000000 ∷ 0x3ff7fffdcdff7e7ffffffbfffee6ffbf3fffff300800602c ∷ 0x3ff7fffdcdff7e7ffffffbfffee6ffbf3fffff300800602c ∷ 0x8000000000 ∷ 0x20000000 ∷ 0x40000000 ∷ []

-- the atoms that may stand behind each rule
abbrev pub followers : List ℕ
followers =
    0x0 ∷ 0x3ffffffffffcbffbffe119214824ca42192d91022000000 ∷ 0x3ffffffffffcbffbffe119214824ca42192d91022000000 ∷ 0x2000000 ∷ 0x40000000 ∷ 0x2000000 ∷ 0x3ff7fffdcdff7e7ffffffbfffee6ffbf3fffff3028000004 ∷ 0x2000000 ∷
    0x23ffffffffffffffffffffffffffffffffffff0003000000 ∷ 0x23ffffffffffffffffffffffffffffffffffff0003000000 ∷ 0x2000040 ∷ 0x2000000 ∷ 0x100000000000000000000000000000000000000000000000 ∷ 0x10040 ∷ 0x2000000 ∷ 0x2000000 ∷
    0x2000000 ∷ 0x2000000 ∷ 0x3ffffffffffffffffffffffffffffffffffff0000000000 ∷ 0x2000000 ∷ 0x3ff7fffdcdff7e7ffffffbfffee6ffbf3fffff300a00602c ∷ 0x2000000 ∷ 0x200000000000000000000000000000000000000000000000 ∷ 0x2000000 ∷
    0x2000000 ∷ 0x2000000 ∷ 0x2000000 ∷ 0x2000000 ∷ 0x40000000 ∷ 0x40000000 ∷ 0x40000000 ∷ 0x40000000 ∷ 0x3ff7fffdcdff7e7ffffffbfffee6ffbf3fffff304a000004 ∷ 0x3ffffffffffcbffbffe119214824ca42192d91022000000 ∷
    0x10000000000008000808000000000004000400003000000 ∷ 0x3ffffffffffffffffffffffffffffffffffff0003000000 ∷ 0x10000000000008000808000000000004000400003000000 ∷ 0x10000000000008000808000000000004000400003000000 ∷ 0x2000000 ∷
    0x2000000 ∷ 0x10000000000008000808000000000004000400003000000 ∷ 0x10000000000008000808000000000004000400003000000 ∷ 0x2000000 ∷ 0x2000000 ∷ 0x10000000000008000808000000000004000400003000000 ∷
    0x10000000000008000808000000000004000400003000000 ∷ 0x10000000000008000808000000000004000400003000000 ∷ 0x3ff7fffdcdff7efffffffbfffee6ffbf7fffff302b000004 ∷ 0x3ff7fffdcdff7efffffffbfffee6ffbf7fffff302b000004 ∷ 0x2000000 ∷
    0x40000000 ∷ 0x3ff7fffdcdff7efffffffbfffee6ffbf7fffff302b000004 ∷ 0x3ffffffffffffffffffffffffffffffffffff0003002000 ∷ 0x3ffffffffffffffffffffffffffffffffffff0003002000 ∷ 0x2000040 ∷ 0x1 ∷
    0x13ffffffffffffffffffffffffffffffffffff0000000001 ∷ 0x13ffffffffffffffffffffffffffffffffffff0000000001 ∷ 0x2000040 ∷ 0x16000000 ∷ 0x16000000 ∷ 0x200000000000000000000000000000000000000017000000 ∷ 0x13000000 ∷
    0x200000000000000000000000000000000000000017000000 ∷ 0x200000000000000000000000000000000000000017000000 ∷ 0x200000000000000000000000000000000000000017000000 ∷ 0x2000000 ∷ 0x200000000000000000000000000000000000000017010000 ∷
    0x200000000000000000000000000000000000000017011400 ∷ 0x200000000000000000000000000000000000000017011400 ∷ 0x200000000000000000000000000000000000000017011400 ∷ 0x200000000000000000000000000000000000000017011400 ∷
    0x200000000000000000000000000000000000000017011400 ∷ 0x200000000000000000000000000000000000000017011400 ∷ 0x200000000000000000000000000000000000000017011400 ∷ 0x20000002320081800000000001190040c0000000173f9400 ∷
    0x20000002320081800000000001190040c0000000173f9400 ∷ 0x20000002320081800000000001190040c0000000173f9414 ∷ 0x20000002320081800000000001190040c0000000173f9414 ∷ 0x20000002320081800000000001190040c0000000173f9414 ∷
    0x20000002320081800000000001190040c0000000173f9fd4 ∷ 0x20000002320081800000000001190040c0000000173f9fd4 ∷ 0x20000002320081800000000001190040c0000000173f9fd4 ∷ 0x20000002320081800000000001190040c0000000173f9fd7 ∷
    0x20000002320081800000000001190040c0000000173f9fd7 ∷ 0x20000002320081800000000001190040c0000000173f9fd7 ∷ 0x20000002320081800000000001190040c0000000173f9fd7 ∷ 0x20000002320081800000000001190040c0000000173f9fd7 ∷
    0x20000002320081800000000001190040c0000000173f9fff ∷ 0x20000002320081800000000001190040c0000000173f9fff ∷ 0x20000002320081800000000001190040c000000c173f9fff ∷ 0x3fffffffffffffffffffffffffffffffffffff3c1fbfbfff ∷
    0x3fffffffffffffffffffffffffffffffffffff3c1fbfbfff ∷ 0x3fffffffffffffffffffffffffffffffffffff3e1fbfbfff ∷ 0x10000000 ∷ 0x10000000 ∷ 0x3fffffffffffffffffffffffffffffffffffff7e5fbfbfff ∷
    0x3fffffffffffffffffffffffffffffffffffff7e7fbfbfff ∷ 0x3fffffffffffffffffffffffffffffffffffff7e7fbfbfff ∷ 0x3fffffffffffffffffffffffffffffffffffff7e7fbfbfff ∷ 0x3ffffffdcdff7e7ffffffffffee6ffbf3fffff704f000005 ∷
    0x200000000000000000000000000000000000000017000000 ∷ 0x200000000000000000000000000000000000000017000000 ∷ 0x13000000 ∷ 0x13000000 ∷ 0x2120081800000000001090040c0000000033f9fd7 ∷ 0x2120081800000000001090040c0000000133f9fd7 ∷
    0x13000000 ∷ 0x3ff7fffdcdff7e7ffffffbfffee6ffbf3fffffb3ca50602c ∷ 0x2120081800000000001090040c000000e0b3f9fff ∷ 0x3000000 ∷ 0x3ff7fffdcdff7e7ffffffbfffee6ffbf3fffffb3ca50602c ∷
    0x3ff7fffdcdff7e7ffffffbfffee6ffbf3fffff300800602c ∷ 0x3ff7fffdcdff7e7ffffffbfffee6ffbf3fffff300800602c ∷ 0x800000000000000000400000000000000000007000000 ∷ 0x3ff7fffdcdff7e7ffffffbfffee6ffbf3fffffb3ca50602c ∷
    0x3ff7fffdcdff7e7ffffffbfffee6ffbf3fffffb3ca50602c ∷ 0x3ff7fffdcdff7e7ffffffbfffee6ffbf3fffffb3ca50602c ∷ 0x100000000 ∷ 0x3ff7fffdcdff7e7ffffffbfffee6ffbf3fffffb3ca50602c ∷ 0x3ff7fffdcdff7e7ffffffbfffee6ffbf3fffffb3ca50602c ∷
    0x3ff7fffdcdff7e7ffffffbfffee6ffbf3fffffb3ca50602c ∷ 0x3ff7fffdcdff7e7ffffffbfffee6ffbf3fffffb3ca50602c ∷ 0x3ff7fffdcdff7e7ffffffbfffee6ffbf3fffffb3ca50602c ∷ 0x3ff7fffdcdff7e7ffffffbfffee6ffbf3fffffb3ca50602c ∷
    0x3ff7fffdcdff7e7ffffffbfffee6ffbf3fffffb3ca50602c ∷ 0x3ff7fffdcdff7e7ffffffbfffee6ffbf3fffffb3ca50602c ∷ 0x4000000 ∷ 0x4000000 ∷ 0x10000000 ∷ 0x3ff7fffdcdff7e7ffffffbfffee6ffbf3fffffb3ca50602c ∷
    0x3ff7fffdcdff7e7ffffffbfffee6ffbf3fffffb3ca50602c ∷ 0x100000000 ∷ 0x100000000 ∷ 0x3ff7fffdcdff7e7ffffffbfffee6ffbf3fffffb3ca50602c ∷ 0x2000000 ∷ 0x3ff7fffdcdff7e7ffffffbfffee6ffbf3fffffb3ca50602c ∷ 0x2000000 ∷
    0x3ff7fffdcdff7e7ffffffbfffee6ffbf3fffffb3ca50602c ∷ 0x3ff7fffdcdff7e7ffffffbfffee6ffbf3fffffb3ca50602c ∷ 0x2000000 ∷ 0x3ff7fffdcdff7e7ffffffbfffee6ffbf3fffffb3ca50602c ∷ 0x3ff7fffdcdff7e7ffffffbfffee6ffbf3fffffb3ca50602c ∷
    0x3ff7fffdcdff7e7ffffffbfffee6ffbf3fffffb3ca50602c ∷ 0x3ff7fffdcdff7e7ffffffbfffee6ffbf3fffffb3ca50602c ∷ 0x840000 ∷ 0x3ff7fffdcdff7e7ffffffbfffee6ffbf3fffff3008840000 ∷ 0x840000 ∷ 0x840000 ∷ 0x2000000 ∷ 0x2000000 ∷
    0x2000000 ∷ 0x3ff7fffdcdff7e7ffffffbfffee6ffbf3fffff700a000005 ∷ 0x2000000 ∷ 0x4002000001 ∷ 0x2000000 ∷ 0x2000000 ∷ 0x2000000 ∷ 0x2000000 ∷ 0x2000000 ∷ 0x3000000 ∷ 0x3000000 ∷ 0x3000000 ∷ 0x3000000 ∷ 0x3000000 ∷ 0x3000000 ∷
    0x10000000 ∷ 0x3000000 ∷ 0x3ff7fffdcdff7e7ffffffbfffee6ffbf3fffffb2ca50602c ∷ 0x3ff7fffdcdff7e7ffffffbfffee6ffbf3fffffb2ca50602c ∷ 0x3ff7fffdcdff7e7ffffffbfffee6ffbf3fffffb2ca50602c ∷
    0x2120081800000000001090040c000000e0b3f9fff ∷ 0x3000000 ∷ 0x3ff7fffdcdff7e7ffffffbfffee6ffbf3fffffb2ca50602c ∷ 0x3ff7fffdcdff7e7ffffffbfffee6ffbf3fffffb2ca50602c ∷ 0x3ff7fffdcdff7e7ffffffbfffee6ffbf3fffffb2ca50602c ∷
    0x3ff7fffdcdff7e7ffffffbfffee6ffbf3fffffb2ca50602c ∷ 0x3ff7fffdcdff7e7ffffffbfffee6ffbf3fffffb2ca50602c ∷ 0x3ff7fffdcdff7e7ffffffbfffee6ffbf3fffffb2ca50602c ∷ 0x3ffffffdcdff7e7ffffffffffee6ffbf3fffff300d00602c ∷
    0x3ff7fffdcdff7e7ffffffbfffee6ffbf3fffffb2ca50602c ∷ 0x3ff7fffdcdff7e7ffffffbfffee6ffbf3fffffb2ca50602c ∷ 0x3ff7fffdcdff7e7ffffffbfffee6ffbf3fffffb2ca50602c ∷ 0x3ff7fffdcdff7e7ffffffbfffee6ffbf3fffffb2ca50602c ∷
    0x3ff7fffdcdff7e7ffffffbfffee6ffbf3fffffb2ca50602c ∷ 0x3ff7fffdcdff7e7ffffffbfffee6ffbf3fffffb2ca50602c ∷ 0x3ffffffdcdff7e7ffffffffffee6ffbf3fffff300d00602c ∷ 0x3ff7fffdcdff7e7ffffffbfffee6ffbf3fffffb2ca50602c ∷
    0x3ff7fffdcdff7e7ffffffbfffee6ffbf3fffffb2ca50602c ∷ 0x3ff7fffdcdff7e7ffffffbfffee6ffbf3fffffb2ca50602c ∷ 0x3ff7fffdcdff7e7ffffffbfffee6ffbf3fffffb3ca50602c ∷ 0x3ff7fffdcdff7e7ffffffbfffee6ffbf3fffffb2ca50602c ∷
    0x3ff7fffdcdff7e7ffffffbfffee6ffbf3fffffb2ca50602c ∷ 0x3ff7fffdcdff7e7ffffffbfffee6ffbf3fffffb2ca50602c ∷ 0x3ff7fffdcdff7e7ffffffbfffee6ffbf3fffffb2ca50602c ∷ 0x4000000 ∷ 0x5000000 ∷
    0x3ff7fffdcdff7e7ffffffbfffee6ffbf3fffffb2ca50602c ∷ 0x3ff7fffdcdff7e7ffffffbfffee6ffbf3fffffb2ca50602c ∷ 0x3ff7fffdcdff7e7ffffffbfffee6ffbf3fffffb2ca50602c ∷ 0x3ff7fffdcdff7e7ffffffbfffee6ffbf3fffffb2ca50602c ∷
    0x3ff7fffdcdff7e7ffffffbfffee6ffbf3fffffb38a50602c ∷ 0x3ff7fffdcdff7e7ffffffbfffee6ffbf3fffffb38a50602c ∷ 0x3ff7fffdcdff7e7ffffffbfffee6ffbf3fffffb38a50602c ∷ 0x800000000000000000400000000000000000005000000 ∷
    0x3ff7fffdcdff7e7ffffffbfffee6ffbf3fffffb38a50602c ∷ 0x3ff7fffdcdff7e7ffffffbfffee6ffbf3fffffb38a50602c ∷ 0x4000000 ∷ 0x5000000 ∷ 0x5000000 ∷ 0x5000000 ∷ 0x3ff7fffdcdff7e7ffffffbfffee6ffbf3fffffb38a50602c ∷
    0x3ff7fffdcdff7e7ffffffbfffee6ffbf3fffffb38a50602c ∷ 0x3ff7fffdcdff7e7ffffffbfffee6ffbf3fffffb38a50602c ∷ 0x3ff7fffdcdff7e7ffffffbfffee6ffbf3fffffb38a50602c ∷ 0x3ff7fffdcdff7e7ffffffbfffee6ffbf3fffffb38a50602c ∷
    0x3ff7fffdcdff7e7ffffffbfffee6ffbf3fffffb38a50602c ∷ 0x80002120081800000040001090040c000000e0f3f9fff ∷ 0x3ff7fffdcdff7e7ffffffbfffee6ffbf3fffffb38a50602c ∷ 0x3ff7fffdcdff7e7ffffffbfffee6ffbf3fffffb38a50602c ∷
    0x2120081800000000001090040c0000000033f9fd7 ∷ 0x3ff7fffdcdff7e7ffffffbfffee6ffbf3fffffb38a50602c ∷ 0x3ff7fffdcdff7e7ffffffbfffee6ffbf3fffffb38a50602c ∷ 0x3ff7fffdcdff7e7ffffffbfffee6ffbf3fffffb38a50602c ∷
    0x3ff7fffdcdff7e7ffffffbfffee6ffbf3fffffb38a50602c ∷ 0x3ff7fffdcdff7e7ffffffbfffee6ffbf3fffffb38a50602c ∷ 0x3ff7fffdcdff7e7ffffffbfffee6ffbf3fffffb38a50602c ∷ 0x3ffffffdcdff7e7ffffffffffee6ffbf3fffff300d00602c ∷
    0x3ff7fffdcdff7e7ffffffbfffee6ffbf3fffffb38a50602c ∷ 0x3ff7fffdcdff7e7ffffffbfffee6ffbf3fffffb38a50602c ∷ 0x3ff7fffdcdff7e7ffffffbfffee6ffbf3fffffb38a50602c ∷ 0x3ff7fffdcdff7e7ffffffbfffee6ffbf3fffffb38a50602c ∷
    0x3ff7fffdcdff7e7ffffffbfffee6ffbf3fffffb38a50602c ∷ 0x3ff7fffdcdff7e7ffffffbfffee6ffbf3fffffb38a50602c ∷ 0x3ffffffdcdff7e7ffffffffffee6ffbf3fffff300d00602c ∷ 0x3ff7fffdcdff7e7ffffffbfffee6ffbf3fffffb38a50602c ∷
    0x3ff7fffdcdff7e7ffffffbfffee6ffbf3fffffb38a50602c ∷ 0x3ff7fffdcdff7e7ffffffbfffee6ffbf3fffffb38a50602c ∷ 0x3ff7fffdcdff7e7ffffffbfffee6ffbf3fffffb38a50602c ∷ 0x3ff7fffdcdff7e7ffffffbfffee6ffbf3fffffb38a50602c ∷
    0x3ff7fffdcdff7e7ffffffbfffee6ffbf3fffffb38a50602c ∷ 0x3ff7fffdcdff7e7ffffffbfffee6ffbf3fffffb38a50602c ∷ 0x3ff7fffdcdff7e7ffffffbfffee6ffbf3fffffb38a50602c ∷ 0x3ff7fffdcdff7e7ffffffbfffee6ffbf3fffffb38a50602c ∷
    0x3ff7fffdcdff7e7ffffffbfffee6ffbf3fffffb38a50602c ∷ 0x3ff7fffdcdff7e7ffffffbfffee6ffbf3fffffb38a50602c ∷ 0x2120081800000000001090040c0000000033f9fd7 ∷ 0x3ff7fffdcdff7e7ffffffbfffee6ffbf3fffffb38a50602c ∷
    0x3ff7fffdcdff7e7ffffffbfffee6ffbf3fffffb38a50602c ∷ 0x3ff7fffdcdff7e7ffffffbfffee6ffbf3fffffb38a50602c ∷ 0x3ff7fffdcdff7e7ffffffbfffee6ffbf3fffffb38a50602c ∷ 0x0 ∷ 0x0 ∷ 0x0 ∷ 0x0 ∷ 0x0 ∷ []

-- tells of each rule whether it can be empty
abbrev pub empties : List Bool
empties =
    true ∷ false ∷ false ∷ true ∷ true ∷ true ∷ false ∷ false ∷ true ∷ true ∷ true ∷ true ∷ true ∷ true ∷ false ∷ true ∷ false ∷ true ∷
    false ∷ true ∷ false ∷ true ∷ true ∷ false ∷ false ∷ false ∷ true ∷ true ∷ true ∷ true ∷ true ∷ true ∷ false ∷ false ∷ true ∷ true ∷
    true ∷ true ∷ true ∷ false ∷ true ∷ true ∷ true ∷ false ∷ false ∷ true ∷ true ∷ false ∷ false ∷ true ∷ true ∷ false ∷ false ∷ false ∷
    false ∷ true ∷ true ∷ true ∷ true ∷ false ∷ true ∷ false ∷ false ∷ false ∷ true ∷ true ∷ false ∷ true ∷ false ∷ false ∷ true ∷ true ∷
    false ∷ false ∷ true ∷ false ∷ true ∷ false ∷ false ∷ true ∷ false ∷ false ∷ true ∷ false ∷ false ∷ false ∷ false ∷ true ∷ false ∷
    true ∷ false ∷ false ∷ true ∷ false ∷ true ∷ true ∷ false ∷ false ∷ false ∷ false ∷ false ∷ true ∷ true ∷ false ∷ false ∷ false ∷
    false ∷ false ∷ false ∷ false ∷ false ∷ false ∷ false ∷ false ∷ false ∷ false ∷ false ∷ false ∷ true ∷ false ∷ false ∷ false ∷ false ∷
    true ∷ false ∷ false ∷ false ∷ true ∷ true ∷ true ∷ false ∷ false ∷ true ∷ true ∷ false ∷ true ∷ false ∷ true ∷ false ∷ false ∷ true ∷
    false ∷ false ∷ false ∷ false ∷ false ∷ false ∷ true ∷ true ∷ true ∷ true ∷ false ∷ false ∷ true ∷ true ∷ true ∷ false ∷ true ∷ false ∷
    false ∷ false ∷ true ∷ false ∷ false ∷ false ∷ true ∷ false ∷ false ∷ false ∷ false ∷ false ∷ false ∷ false ∷ false ∷ false ∷ false ∷
    false ∷ false ∷ false ∷ false ∷ false ∷ false ∷ false ∷ false ∷ false ∷ false ∷ false ∷ false ∷ false ∷ false ∷ false ∷ false ∷ false ∷
    false ∷ false ∷ true ∷ true ∷ false ∷ false ∷ false ∷ false ∷ false ∷ false ∷ false ∷ false ∷ false ∷ false ∷ true ∷ false ∷ true ∷
    false ∷ false ∷ false ∷ false ∷ false ∷ false ∷ false ∷ false ∷ false ∷ false ∷ false ∷ false ∷ false ∷ false ∷ false ∷ false ∷ false ∷
    false ∷ false ∷ false ∷ false ∷ false ∷ false ∷ false ∷ false ∷ false ∷ false ∷ false ∷ false ∷ false ∷ false ∷ false ∷ false ∷ false ∷
    false ∷ false ∷ false ∷ false ∷ false ∷ false ∷ false ∷ false ∷ false ∷ false ∷ false ∷ false ∷ []

-- a number above that of the steps through each rule to a token
abbrev pub step_bounds : List ℕ
step_bounds =
    6 ∷ 5 ∷ 4 ∷ 2 ∷ 8 ∷ 2 ∷ 2 ∷ 8 ∷ 2 ∷ 2 ∷ 2 ∷ 3 ∷ 2 ∷ 2 ∷ 4 ∷ 3 ∷ 3 ∷ 2 ∷ 2 ∷ 7 ∷ 2 ∷ 8 ∷ 2 ∷ 7 ∷ 5 ∷ 7 ∷ 9 ∷ 8 ∷ 7 ∷ 9 ∷ 9 ∷ 8 ∷ 7 ∷ 9 ∷
    2 ∷ 2 ∷ 2 ∷ 2 ∷ 3 ∷ 2 ∷ 4 ∷ 2 ∷ 3 ∷ 3 ∷ 2 ∷ 8 ∷ 8 ∷ 7 ∷ 5 ∷ 2 ∷ 8 ∷ 4 ∷ 3 ∷ 2 ∷ 2 ∷ 2 ∷ 2 ∷ 2 ∷ 2 ∷ 6 ∷ 2 ∷ 5 ∷ 4 ∷ 3 ∷ 3 ∷ 2 ∷ 12 ∷ 3 ∷
    2 ∷ 11 ∷ 4 ∷ 3 ∷ 2 ∷ 12 ∷ 2 ∷ 10 ∷ 3 ∷ 2 ∷ 9 ∷ 3 ∷ 2 ∷ 8 ∷ 3 ∷ 2 ∷ 7 ∷ 6 ∷ 2 ∷ 3 ∷ 2 ∷ 3 ∷ 2 ∷ 5 ∷ 3 ∷ 2 ∷ 6 ∷ 2 ∷ 4 ∷ 3 ∷ 2 ∷ 2 ∷ 5 ∷
    30 ∷ 20 ∷ 5 ∷ 4 ∷ 4 ∷ 3 ∷ 3 ∷ 7 ∷ 3 ∷ 4 ∷ 2 ∷ 2 ∷ 2 ∷ 2 ∷ 3 ∷ 6 ∷ 5 ∷ 8 ∷ 3 ∷ 9 ∷ 6 ∷ 3 ∷ 3 ∷ 3 ∷ 9 ∷ 3 ∷ 9 ∷ 9 ∷ 9 ∷ 3 ∷ 3 ∷ 7 ∷ 7 ∷
    7 ∷ 2 ∷ 12 ∷ 8 ∷ 2 ∷ 7 ∷ 6 ∷ 7 ∷ 8 ∷ 7 ∷ 2 ∷ 3 ∷ 2 ∷ 7 ∷ 7 ∷ 5 ∷ 11 ∷ 7 ∷ 3 ∷ 12 ∷ 7 ∷ 4 ∷ 3 ∷ 3 ∷ 2 ∷ 2 ∷ 6 ∷ 8 ∷ 4 ∷ 6 ∷ 8 ∷ 8 ∷ 6 ∷
    7 ∷ 7 ∷ 7 ∷ 8 ∷ 3 ∷ 4 ∷ 11 ∷ 11 ∷ 11 ∷ 11 ∷ 11 ∷ 11 ∷ 2 ∷ 11 ∷ 13 ∷ 11 ∷ 9 ∷ 11 ∷ 11 ∷ 2 ∷ 11 ∷ 11 ∷ 11 ∷ 3 ∷ 10 ∷ 7 ∷ 2 ∷ 6 ∷ 2 ∷ 2 ∷
    6 ∷ 5 ∷ 6 ∷ 4 ∷ 6 ∷ 5 ∷ 3 ∷ 4 ∷ 7 ∷ 6 ∷ 2 ∷ 6 ∷ 3 ∷ 2 ∷ 6 ∷ 9 ∷ 6 ∷ 6 ∷ 8 ∷ 6 ∷ 3 ∷ 6 ∷ 5 ∷ 3 ∷ 11 ∷ 11 ∷ 11 ∷ 11 ∷ 11 ∷ 11 ∷ 2 ∷ 11 ∷
    13 ∷ 11 ∷ 9 ∷ 11 ∷ 11 ∷ 2 ∷ 11 ∷ 11 ∷ 11 ∷ 10 ∷ 7 ∷ 7 ∷ 5 ∷ 5 ∷ 4 ∷ 5 ∷ 5 ∷ 3 ∷ 8 ∷ 7 ∷ 6 ∷ 4 ∷ 9 ∷ 8 ∷ 3 ∷ 3 ∷ 3 ∷ []

-- The routines that the compiler supplies where a source uses them and has none of its own.
use Rattle.std.specs.Prelude.{ℕ, ◌-◌, ◌==◌, List, [], ◌∷◌, ◌++◌, if◌then◌else◌, Option, None, slice_get, codes}

-- their texts in Inform, in the order in which they are supplied
unfoldable pub all_texts : List (List ℕ)
all_texts = codes "[R_Process a n s;print \"<\",a,\" \",n,\" \",s,\">^\";];" ∷ codes "[DefArt o;print \"the \";PrintShortName(o);];" ∷
    codes "[InDefArt o;print \"a \";PrintShortName(o);];" ∷ codes "[CDefArt o;print \"The \";PrintShortName(o);];" ∷
    codes "[PrintShortName o;if(Z__Region(o)==1)print (object) o;else print o;];" ∷ codes "[EnglishNumber n;print n;];" ∷
    codes "[AP__Va o p d k v;v=o.p;WV__Pr(o,p,v+d);if(k)return v+d;return v;];" ∷
    (codes "[CA__Pr o p a b c d e x s t;x=o.p;if(Z__Region(x)==3)print_ret (string) x;if(Z__Region(x)~=2)return x;s=self;" ++
    codes "t=sender;sender=self;self=o;#Ifdef action;sw__var=action;#Endif;x=x(a,b,c,d,e);self=s;sender=t;return x;];") ∷
    codes "[WV__Pr o p v a;a=o.&p;if(a)a-->0=v;return v;];" ∷
    codes "[RV__Pr o p a;if(p<64){@get_prop o p->a;return a;}a=CP__Tab(o,p);if(a==0)rfalse;return (a+1)-->0;];" ∷
    (codes "[RL__Pr o p a;if(p<64){@get_prop_addr o p->a;if(a==0)rfalse;@get_prop_len a->a;return a;}a=CP__Tab(o,p);" ++
    codes "if(a)return a->0;rfalse;];") ∷
    codes "[OP__Pr o p;return RA__Pr(o,p)~=0;];" ∷
    codes "[RA__Pr o p a;if(p<64){@get_prop_addr o p->a;return a;}a=CP__Tab(o,p);if(a)return a+1;rfalse;];" ∷
    (codes "[CP__Tab o p a;@get_prop_addr o 3->a;if(a==0)rfalse;a=a-->0;while(a-->0){if(a-->0==p)return a+2;a=a+3+a->2;" ++
    codes "}rfalse;];") ∷
    (codes "[OC__Cl o c a n i;i=Z__Region(o);if(i==0)rfalse;if(i>1)return c==i+1;n=parent(o)==1||o<5;if(c==1)return n;" ++
    codes "if(c==2)return n==0;@get_prop_addr o 2->a;if(a==0)rfalse;@get_prop_len a->n;n=n/2;" ++
    codes "for(i=0:i<n:i++)if(a-->i==c)rtrue;rfalse;];") ∷
    (codes "[Z__Region x;if(x==0)rfalse;if(Unsigned__Compare(x,#highest_object_number)<=0)return 1;" ++
    codes "if(Unsigned__Compare(x,#strings_offset)>=0)return 3;if(Unsigned__Compare(x,#code_offset)>=0)return 2;rfalse;];") ∷
    (codes "[Unsigned__Compare x y;if(x==y)return 0;if(x<0&&y>=0)return 1;if(x>=0&&y<0)return -1;if(x>y)return 1;" ++
    codes "return -1;];") ∷ codes "[Ch__Ln o n;o=child(o);while(o){n++;o=sibling(o);}return n;];" ∷
    codes "[Sp__Pr n;while(n>0){print \" \";n--;}];" ∷ codes "[SB__Va a i v;a->i=v;return v;];" ∷
    codes "[SW__Va a i v;a-->i=v;return v;];" ∷
    codes "[AB__Va a i d k v;v=a->i;a->i=v+d;if(k)return v+d;return v;];" ∷
    codes "[AW__Va a i d k v;v=a-->i;a-->i=v+d;if(k)return v+d;return v;];" ∷
    []

-- their names, in the same order
unfoldable pub all_names : List (List ℕ)
all_names = codes "R_Process" ∷ codes "DefArt" ∷ codes "InDefArt" ∷ codes "CDefArt" ∷ codes "PrintShortName" ∷ codes "EnglishNumber" ∷
    codes "AP__Va" ∷ codes "CA__Pr" ∷ codes "WV__Pr" ∷ codes "RV__Pr" ∷ codes "RL__Pr" ∷ codes "OP__Pr" ∷ codes "RA__Pr" ∷ codes "CP__Tab" ∷
    codes "OC__Cl" ∷ codes "Z__Region" ∷ codes "Unsigned__Compare" ∷ codes "Ch__Ln" ∷ codes "Sp__Pr" ∷ codes "SB__Va" ∷ codes "SW__Va" ∷
    codes "AB__Va" ∷ codes "AW__Va" ∷ []

-- the one of a number, from 1 on
abbrev pub numbered : ℕ → List (List ℕ) → Option (List ℕ)
numbered n all = if n == 0 then None else slice_get all (n - 1)

-- the text of the routine of a number, from 1 on
abbrev pub text_of : ℕ → Option (List ℕ)
text_of n = numbered n all_texts

-- the name of the routine of a number
abbrev pub name_of : ℕ → Option (List ℕ)
name_of n = numbered n all_names
